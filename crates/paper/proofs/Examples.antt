-- The worked examples (specs/Examples.antt), most of them by computing. A truth names the arm, the child or the values; an
-- untruth takes one apart, as far as a yes that the meaning does not say; a list that is not carried out is asked at the
-- variable that breaks it.
use Prim.Native.Nat.{ℕ, zero, suc, ◌<◌}
use native.Mathlib.Omega.{arith}
use mathlib.Core.Path.{◌≡◌, refl, sym, ap, ap₂, ◌∙◌}
use mathlib.Core.Bool.{true, false, ◌||◌, or-false, true≢false, false≢true}
use mathlib.Core.Logic.{inl, inr}
use mathlib.Core.List.{[], ◌∷◌}
use lib.Dec.{eqb}
use borrow.Author.Tests.{eqb-true}
use Rattle.paper.specs.Formula.{Label, Variable, ℓ, 𝓋, alike, Formula, assigns}
use Rattle.paper.specs.Frozen.{frozen}
use Rattle.paper.specs.Carry.{Carried, unset}
use Rattle.paper.specs.Examples.{TruthOfJoins, TruthOfIF, TruthOfExists, TruthOfCandidate, Sliced, reading, guarded, CarriedLists}
use Rattle.paper.specs.Examples.{Guards, BeforeAndOrder, Numbering, Places}
use Rattle.paper.proofs.Bools.{and_left}
use Rattle.paper.proofs.Labels.{alike-eq}

pub truth-of-joins : TruthOfJoins
truth-of-joins = record {
  conjunction_by_both = (refl, refl);
  conjunction_not_by_one = λ (p, q). false≢true q;
  disjunction_by_one = inr refl;
  disjunction_not_by_none = λ t. elim t [ inl p ↦ false≢true p | inr q ↦ false≢true q ];
  FALSE-never = λ t. t;
}

pub truth-of-IF : TruthOfIF
truth-of-IF = record {
  yes_asks_then = inl (refl, refl);
  yes_not_else = λ t. elim t [ inl (p, q) ↦ false≢true q | inr (p, q) ↦ true≢false p ];
  no_asks_else = inr (refl, refl);
  no_not_then = λ t. elim t [ inl (p, q) ↦ false≢true p | inr (p, q) ↦ false≢true q ];
  not_at_its_star = λ t. elim t [ inl (p, q) ↦ false≢true p | inr (p, q) ↦ false≢true q ];
}

pub truth-of-exists : TruthOfExists
truth-of-exists = record {
  outermost_first = (1, refl, (2, refl, refl));
  not_innermost_first = λ (x, p, (y, q, t)). omega (arith, eqb-true x 1 p, eqb-true x 2 (and_left (eqb x 2) _ t));
  members_only = λ (x, p, t). false≢true p;
}

pub truth-of-candidate : TruthOfCandidate
truth-of-candidate = record { at_its_label = refl; not_at_its_star = false≢true }

pub sliced : Sliced
sliced = record {
  else_cut = refl;
  then_cut = refl;
  tests_cut = refl;
  candidates_cut = refl;
  by_stars = refl;
  under_exists = refl;
  starred_transitions = refl;
}

-- x at i, and then y at j, where the stars of j read x
x-then-y : (f : Formula) (i j : Label) → ((v : Variable) → frozen f i v ≡ false) → ((v : Variable) → assigns f v i ≡ alike v (𝓋 0))
    → ((v : Variable) → frozen f j v ≡ alike v (𝓋 0)) → ((v : Variable) → assigns f v j ≡ alike v (𝓋 1)) → Carried 2 f unset (i ∷ j ∷ [])
x-then-y f i j free sets-x reads-x sets-y = (
  λ v h. sym (free v) ∙ h,
  λ v h. refl,
  (
    λ v h. sets-x v ∙ sym (reads-x v) ∙ h,
    λ v h. sets-x v ∙ ap (λ w. alike w (𝓋 0)) (alike-eq v (𝓋 1) (sym (sets-y v) ∙ h)),
    λ v h. ap₂ ◌||◌ (sets-x v) (sets-y v) ∙ one_of_two v.0 h,
  ),
)
  where
    one_of_two : (n : ℕ) → n < 2 → (eqb n 0 || eqb n 1) ≡ true
    one_of_two zero h = refl
    one_of_two (suc zero) h = refl
    one_of_two (suc (suc n)) h = absurd (omega arith)

pub carried-lists : CarriedLists
carried-lists = record {
  set_then_read = x-then-y reading (ℓ 1) (ℓ 3) (λ v. refl) (λ v. simp or-false) (λ v. simp or-false) (λ v. simp or-false);
  read_first = λ c. false≢true (c.0 (𝓋 0) refl);
  read_of_itself = λ c. false≢true (c.0 (𝓋 0) refl);
  set_then_guard = x-then-y guarded (ℓ 1) (ℓ 5) (λ v. refl) (λ v. simp or-false) (λ v. simp or-false) (λ v. simp or-false);
  guard_first = λ c. false≢true (c.0 (𝓋 0) refl);
  set_again = λ c. true≢false (c.2.1 (𝓋 0) refl);
  done_again = λ c. true≢false (c.2.1 (𝓋 0) refl);
  one_left = λ c. false≢true (c.2 (𝓋 1) (omega arith));
  all_left = λ c. false≢true (c (𝓋 0) (omega arith));
}

pub guards : Guards
guards = record {
  branches_of_IF = refl;
  branches_of_exists = refl;
  frozen_in_then = refl;
  frozen_in_else = refl;
  frozen_under_exists = refl;
  not_beside_it = refl;
  not_unread = refl;
}

pub before-and-order : BeforeAndOrder
before-and-order = record {
  on_one_branch = refl;
  not_across = refl;
  not_across_back = refl;
  alternatives_accepted = refl;
  not_the_reader = refl;
  not_unchosen = refl;
  lowest_ready_first = refl;
}

pub numbering : Numbering
numbering = record { first_decides = refl; not_the_last = refl; then_the_next = refl; not_itself = refl; keys_of_square = refl }

pub places : Places
places = record { strangers_lowest = refl; missed_lowest = refl; doubled_lowest = refl; on_cycle_lowest = refl; not_hanging_on_one = refl }
