-- The number of transitions, on both sides of its edge (specs/ManyTransitions.antt): 65,535 are accepted, more are refused with 14 at 0,
-- and a cycle shows before that. The branches are never listed: what they have of each variable, and how many keys they have, is
-- worked out over the structure (`counts-say`, `numbers-say`); where no star reads anything, nothing comes before anything.
use Prim.Native.Nat.{ℕ}
use mathlib.Core.Path.{◌≡◌, refl, sym, ap, ◌∙◌}
use mathlib.Core.Bool.{Bool, true, false, cond, not, ◌&&◌, true≢false, false≢true}
use mathlib.Core.List.{List, [], ◌∷◌, Memᴰ}
use lib.Dec.{eqb, ltb}
use lib.ListN.{length, drop}
use Rattle.paper.specs.Lists.{any_of, all_of, those}
use Rattle.paper.specs.Formula.{Label, Variable, ℓ, has, holds, Star, Candidate, Formula, labels, is_candidate, candidates, same, WellFormed}
use Rattle.paper.specs.Branch.{branches}
use Rattle.paper.specs.Frozen.{Site, sites, frozen, are_read}
use Rattle.paper.specs.Before.{before, depends, share_branch}
use Rattle.paper.specs.Order.{leads}
use Rattle.paper.specs.Strategy.{chosen_on, MinimalCovering}
use Rattle.paper.specs.Transition.{keys}
use Rattle.paper.specs.Limits.{most_transitions}
use Rattle.paper.specs.declared.refusals.Fault.TheVariants.{NoOrder, TooMany}
use Rattle.paper.specs.Refusals.{refusal}
use Rattle.paper.specs.Judgement.{accepted, refused, variables, strangers, missed, doubled, on_cycles, judge_order, judge}
use Rattle.paper.specs.Inside.Structure.Cover.{cover_of}
use Rattle.paper.specs.Inside.Structure.KeyCount.{number_of}
use Rattle.paper.specs.ManyTransitions.{four_choices, all_of_four, sixteen_choices, all_of_sixteen, sixteen_in_cycle}
use Rattle.paper.proofs.Bools.{and_left, and_right, not_so}
use Rattle.paper.proofs.Lists.{of-any, of-all, to_none, to-those}
use Rattle.paper.proofs.Labels.{has-mem}
use Rattle.paper.proofs.Variables.{in-variables}
use Rattle.paper.proofs.Frozen.{site-of-frozen}
use Rattle.paper.proofs.Judgement.{minimal-of}
use Rattle.paper.proofs.Cover.{counts-say}
use Rattle.paper.proofs.Numbers.{numbers-say}
use Rattle.paper.proofs.Cases.{of-well-formed}

-- 10, 11 and 12 are passed, tested over the structure
abbrev is_covered : ℕ → Formula → List Label → Bool
is_covered #V f A = all_of (is_candidate f) A && all_of (λ v. (cover_of A v f).always && not (cover_of A v f).twice) (variables #V)

module _ (#V : ℕ) (f : Formula) (A : List Label) (formed : WellFormed #V f) (covered : is_covered #V f A ≡ true) where
  homogeneous-test : all_of (is_candidate f) A ≡ true
  homogeneous-test = and_left (all_of (is_candidate f) A) _ covered

  no_strangers : strangers f A ≡ []
  no_strangers = to_none (λ l. not (is_candidate f l)) A (λ l t. ap not (of-all (is_candidate f) homogeneous-test t))

  cover-test : (v : Variable) → Memᴰ v (variables #V) → ((cover_of A v f).always && not (cover_of A v f).twice) ≡ true
  cover-test v t = of-all (λ v. (cover_of A v f).always && not (cover_of A v f).twice) (and_right (all_of (is_candidate f) A) _ covered) t

  none_missed : missed #V f A ≡ []
  none_missed = to_none (λ v. any_of (λ b. eqb (chosen_on f A b v) 0) (branches f)) (variables #V) λ v t. not_so _ λ q.
      let misses = (counts-say #V f A formed v (in-variables #V v t)).missed.0 (to-those _ t q) in
      true≢false (sym (and_left (cover_of A v f).always _ (cover-test v t)) ∙ misses)

  none_doubled : doubled #V f A ≡ []
  none_doubled = to_none (λ v. any_of (λ b. ltb 1 (chosen_on f A b v)) (branches f)) (variables #V) λ v t. not_so _ λ q.
      let doubles = (counts-say #V f A formed v (in-variables #V v t)).doubled.0 (to-those _ t q) in
      true≢false (sym (and_right (cover_of A v f).always _ (cover-test v t)) ∙ ap not doubles)

  minimal : MinimalCovering #V f A
  minimal = minimal-of #V f A none_missed none_doubled

  count_is : length (keys f A) ≡ number_of A f
  count_is = (numbers-say #V f A formed (λ l h. of-all (is_candidate f) homogeneous-test (has-mem A l h)) minimal).count

  passes-12 : judge #V f A ≡ judge_order #V f A
  passes-12 = rw (no_strangers, none_missed, none_doubled)

-- 13: a relation that holds nowhere has no cycle; a label that comes before itself is on one
no_lead : (R : Label → Label → Bool) → ((i j : Label) → R i j ≡ false) → (ks : List Label) (i j : Label) → leads R ks i j ≡ false
no_lead R h [] i j = h i j
no_lead R h (k ∷ ks) i j = rw (no_lead R h ks i j, no_lead R h ks i k)

self-lead : (R : Label → Label → Bool) (i : Label) → R i i ≡ true → (ks : List Label) → leads R ks i i ≡ true
self-lead R i h [] = h
self-lead R i h (k ∷ ks) = rw (self-lead R i h ks)

-- no star reads anything
abbrev is_silent : List Variable → Bool
is_silent [] = true
is_silent (v ∷ vs) = false

abbrev silent : Formula → Bool
silent f = all_of (λ s. all_of (λ t. is_silent t.reads) s.stars) (sites f)

silent-holds-none : (vs : List Variable) (v : Variable) → is_silent vs ≡ true → holds vs v ≡ false
silent-holds-none [] v h = refl
silent-holds-none (w ∷ vs) v h = absurd (false≢true h)

silent-stars : (ss : List Star) (v : Variable) → all_of (λ t. is_silent t.reads) ss ≡ true → are_read ss v ≡ false
silent-stars [] v h = refl
silent-stars (s ∷ ss) v h = rw (silent-holds-none s.reads v (and_left (is_silent s.reads) _ h)) (silent-stars ss v (and_right (is_silent s.reads) _ h))

module _ (f : Formula) (A : List Label) (quiet : silent f ≡ true) where
  nothing-frozen : (j : Label) (v : Variable) → frozen f j v ≡ false
  nothing-frozen j v = not_so (frozen f j v) λ h. at (site-of-frozen f j v h)
    where
      at : (s : Site) × Memᴰ s (sites f) × (j ≡ s.label) × (are_read s.stars v ≡ true) → ⊥
      at (s, t, e, reads) = false≢true (sym (silent-stars s.stars v (of-all (λ s. all_of (λ t. is_silent t.reads) s.stars) quiet t)) ∙ reads)

  nothing-depends : (i j : Label) → depends f i j ≡ false
  nothing-depends i j = not_so (depends f i j) λ h. at (of-any (λ c. same i c.label && frozen f j c.variable) (candidates f) h)
    where
      at : (c : Candidate) × Memᴰ c (candidates f) × ((same i c.label && frozen f j c.variable) ≡ true) → ⊥
      at (c, t, e) = false≢true (sym (nothing-frozen j c.variable) ∙ and_right (same i c.label) _ e)

  nothing-before : (i j : Label) → before f A i j ≡ false
  nothing-before i j = not_so (before f A i j) λ h.
      false≢true (sym (nothing-depends i j) ∙ and_right (share_branch f i j) _ (and_right (has A j) _ (and_right (has A i) _ h)))

  no-cycles : on_cycles f A ≡ []
  no-cycles = to_none (λ l. leads (before f A) A l l) A (λ l t. no_lead (before f A) nothing-before A l l)

-- the judgement, where no star reads anything
judged-by-count : (#V : ℕ) (f : Formula) (A : List Label) → WellFormed #V f → is_covered #V f A ≡ true → silent f ≡ true
    → (n : ℕ) → number_of A f ≡ n → judge #V f A ≡ cond (ltb most_transitions n) (refused (refusal TooMany 0)) (accepted #V (length (labels f)) (length A) n)
judged-by-count #V f A formed covered quiet n e =
    passes-12 #V f A formed covered ∙ rw (no-cycles f A quiet) (rw (count_is #V f A formed covered ∙ e))

-- the judgement, where the first chosen label comes before itself
first-of-those : (p : Label → Bool) {A : List Label} {l : Label} {ls : List Label} → A ≡ l ∷ ls → p l ≡ true → those p A ≡ l ∷ those p ls
first-of-those p e h = rw (e, h)

judged-by-cycle : (#V : ℕ) (f : Formula) (A : List Label) (l : Label) (ls : List Label) → A ≡ l ∷ ls → WellFormed #V f → is_covered #V f A ≡ true
    → before f A l l ≡ true → judge #V f A ≡ refused (refusal NoOrder l.0)
judged-by-cycle #V f A l ls e formed covered cycle =
    passes-12 #V f A formed covered ∙ rw (first-of-those (λ l. leads (before f A) A l l) e (self-lead (before f A) l cycle A))

-- Four disjunctions of 3, 5, 17 and 257 candidates: 65,535 transitions, accepted.
pub four-accepted : judge 4 four_choices all_of_four ≡ accepted 4 569 282 65535
four-accepted = judged-by-count 4 four_choices all_of_four (of-well-formed 4 four_choices refl) refl refl 65535 refl

-- Sixteen disjunctions of two: 14.
pub sixteen-refused : judge 16 sixteen_choices all_of_sixteen ≡ refused (refusal TooMany 0)
sixteen-refused = judged-by-count 16 sixteen_choices all_of_sixteen (of-well-formed 16 sixteen_choices refl) refl refl 65536 refl

-- A cycle shows before that: there are as many keys, and it is 13 at 2.
pub cycle-first : judge 16 sixteen_in_cycle all_of_sixteen ≡ refused (refusal NoOrder 2)
cycle-first = judged-by-cycle 16 sixteen_in_cycle all_of_sixteen (ℓ 2) (drop 1 all_of_sixteen) refl (of-well-formed 16 sixteen_in_cycle refl) refl refl

pub as-many-keys : length (keys sixteen_in_cycle all_of_sixteen) ≡ 65536
as-many-keys = count_is 16 sixteen_in_cycle all_of_sixteen (of-well-formed 16 sixteen_in_cycle refl) refl
