-- Transition k of an accepted formula is the class of the k-th key (specs/Statements.antt): its bytes say which labels that class
-- keeps, and the chosen labels among them are the key, in whatever order they are given. By the paper's numbers over the structure.
use Prim.Native.Nat.{ℕ, ◌<◌, ◌≤◌}
use native.Mathlib.Omega.{arith}
use mathlib.Core.Path.{◌≡◌, sym, ap, subst, ◌∙◌}
use mathlib.Core.Bool.{true}
use mathlib.Core.List.{List, map, Memᴰ}
use lib.ListN.{length, length-map}
use Rattle.paper.specs.Limits.{most_depth, most_transitions}
use Rattle.paper.specs.declared.Label.{Label}
use Rattle.paper.specs.Lists.{those}
use Rattle.paper.specs.Formula.{ℓ, has, Formula, Rising, WellFormed}
use Rattle.paper.specs.Branch.{branches}
use Rattle.paper.specs.Strategy.{Homogeneous, MinimalCovering}
use Rattle.paper.specs.Transition.{key, same_key, class, keys, key_at}
use Rattle.paper.specs.Inside.Structure.KeyCount.{number_of}
use Rattle.paper.specs.Inside.Structure.Kept.{kept_at}
use Rattle.paper.specs.Statements.{NumbersSay}
use Rattle.paper.proofs.Bools.{same_answer}
use Rattle.paper.proofs.Lists.{of-those, sub-those, those-same}
use Rattle.paper.proofs.Labels.{rising-ext, rising-sub, mem-has, has-those, those-has}
use Rattle.paper.proofs.Distinct.{same_key-eq}
use Rattle.paper.proofs.Keys.{key-rises, of-key, to-key}
use Rattle.paper.proofs.KeyLists.{get_d-mem}
use Rattle.paper.proofs.Numbers.{kept-sub, numbers-say}
use Rattle.paper.proofs.Keys.{keys-have-length}
use Rattle.rows.specs.Formula.{formula_at}
use Rattle.rows.specs.Inside.Walk.{Walkable}
use Rattle.keys.specs.declared.Distinct.{Distinct}
use Rattle.marks.specs.Inside.Chosen.{Marked}
use Rattle.keys.specs.Inside.Keys.{total, keys_at}
use Rattle.keys.proofs.KeyNumbers.{keys-number-within}
use Rattle.transitions.specs.Inside.Kept.{Keepable}
use Rattle.transitions.specs.Inside.Assigned.{kept_of}
use Rattle.transitions.specs.Statements.{kth_bytes, TransitionSays, EachTransitionSays}
use Rattle.transitions.proofs.MarkedBytes.{bytes_same}
use Rattle.transitions.proofs.Words.{kept-labels, as-many-ordered}

module _ (#V : ℕ) (f : Formula) (A : List Label) (formed : WellFormed #V f) (homogeneous : Homogeneous f A) (minimal : MinimalCovering #V f A)
    (rises : Rising 0 A) (k : ℕ) (h : k < length (keys f A)) where
  abbrev kept : List Label
  kept = kept_at A f k

  says : NumbersSay #V f A
  says = numbers-say #V f A formed homogeneous minimal

  -- the chosen labels that are kept are the key's
  chosen-kept : those (has kept) A ≡ key_at f A k
  chosen-kept =
      rising-ext 0 0 (those (has kept) A) (key A kept) (rising-sub 0 (sub-those (has kept) A) rises) (key-rises A (kept-sub A f k) formed.rising)
      (λ l t. let (a, e) = those-has (has kept) A l t in to-key A kept l e a)
      (λ l t. let (e, a) = of-key A kept l t in has-those (has kept) A l a e)
      ∙ sym (says.kth_key k h)

  key-length : length (key_at f A k) ≡ #V
  key-length = keys-have-length #V f A formed homogeneous minimal (key_at f A k) (get_d-mem (keys f A) k h)

  -- a chosen label is kept if it is on a branch of the class
  kept_on : (b : List Label) → Memᴰ b (class f A (key_at f A k)) → (l : Label) → has A l ≡ true → has kept l ≡ has b l
  kept_on b t l a =
      let (u, e) = of-those (λ c. same_key (key A c) (key_at f A k)) (branches f) t in
      let one_key = same_key-eq (key A b) (key_at f A k) e ∙ says.kth_key k h in
      same_answer (has kept l) (has b l) (λ i. (of-key A b l (subst (λ j. has j l ≡ true) (sym one_key) (to-key A kept l i a))).0)
      (λ i. (of-key A kept l (subst (λ j. has j l ≡ true) one_key (to-key A b l i a))).0)

  kth-says : TransitionSays #V f A k
  kth-says = record {
    marks_are = bytes_same (λ l. sym (says.kth_kept k h l));
    chosen_are = λ n chosen e below. kept-labels (has kept) n chosen below ∙ ap (those (has kept)) (sym e) ∙ chosen-kept;
    key_has = key-length;
    ordered_are = λ R n order o below b t. kept-labels (has kept) n order below ∙ those-same _ _ (map ℓ order) (λ l u. kept_on b t l (o.from l (mem-has u)));
    ordered_as_many = λ R n order o below.
        sym (length-map (kept_of (kth_bytes f A k n) order) ℓ) ∙ ap length (kept-labels (has kept) n order below)
        ∙ as-many-ordered R (has kept) rises o ∙ ap length chosen-kept ∙ key-length;
  }

  -- an accepted table gives what a walk to transition k asks
  module _ {rows marks : List ℕ} {#N : ℕ} (reads : List ℕ) (f-is : f ≡ formula_at rows reads most_depth 0) (w : Walkable rows #N 0) (marked : Marked A marks)
      (few : length (keys f A) ≤ most_transitions) where
    count : length (keys f A) ≡ number_of A (formula_at rows reads most_depth 0)
    count = says.count ∙ ap (number_of A) f-is

    number_is : total (keys_at rows marks most_depth 0) ≡ length (keys f A)
    number_is = keys-number-within rows marks most_depth 0 A marked w reads (subst (λ n. n ≤ most_transitions) count few) ∙ sym count

    pub transition-keepable : (own : Distinct) → own ≡ keys_at rows marks most_depth 0 → (out : List ℕ) → #N ≤ length out
        → Keepable rows marks out #N 0 most_depth own k
    transition-keepable own own_are out room =
        let n = ap total own_are ∙ number_is in
        record { here = w.here; room = room; size = marked.size; own_are = own_are; few = omega arith; among = omega arith }

pub transition-says : (#V : ℕ) (f : Formula) (A : List Label) → EachTransitionSays #V f A
transition-says = kth-says
