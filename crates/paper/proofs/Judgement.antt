-- The judgement (specs/Statements.antt, 4): it accepts if no check finds an offender, and the checks find none exactly if
-- the proposal is an assignment strategy. Refusal 13 is at the first label of an ascending list, so at the lowest.
use Prim.Native.Nat.{ℕ, ◌<◌, ◌≤◌}
use native.Mathlib.Omega.{arith}
use mathlib.Core.Path.{◌≡◌, refl, sym, subst, ap, ◌∙◌}
use mathlib.Core.Bool.{Bool, true, false, cond, not, true≢false, false≢true}
use mathlib.Core.List.{List, [], ◌∷◌, map, Memᴰ}
use lib.Dec.{eqb, ltb}
use lib.ListN.{length}
use borrow.Author.Tests.{eqb-false, ltb-false, le-ltb, ne_eqb, not-false}
use Rattle.paper.specs.Limits.{most_transitions}
use Rattle.paper.specs.Lists.{any_of, those}
use Rattle.paper.specs.Formula.{Label, Variable, ℓ, has, Formula, labels, is_candidate, Rising}
use Rattle.paper.specs.Branch.{branches}
use Rattle.paper.specs.Before.{before}
use Rattle.paper.specs.Order.{Chain, on_cycle}
use Rattle.paper.specs.Strategy.{chosen_on, Strategy, Homogeneous, MinimalCovering}
use Rattle.paper.specs.Transition.{keys}
use Rattle.paper.specs.declared.refusals.Fault.{Fault}
use Rattle.paper.specs.declared.Refusal.{Refusal}
use Rattle.paper.specs.declared.refusals.Fault.TheVariants.{NoCandidate, VariableMissed, VariableTwice, NoOrder, TooMany, OddBytes}
use Rattle.paper.specs.Refusals.{refusal}
use Rattle.paper.specs.Judgement.{Judgement, accepted, refused, refuse, variables, strangers, missed, doubled, on_cycles, judge}
use Rattle.paper.specs.Statements.{AcceptedExactly, AcceptedOnlySo, Refusal13, OrderExists}
use Rattle.paper.proofs.Bools.{not_so}
use Rattle.paper.proofs.Lists.{to-any, of-any, to_none, of_none, sub-those}
use Rattle.paper.proofs.Labels.{has-head, has-mem, mem-has, has-those, those-has, rising-sub, rising-above}
use Rattle.paper.proofs.Variables.{in-variables, to-variables}
use Rattle.paper.proofs.Cycle.{chain-starts}
use Rattle.paper.proofs.Order.{order-exists, before-between}

-- the refusal that a judgement holds, if any: equal judgements have equal ones
abbrev refusal_in : Judgement → Refusal
refusal_in (accepted v n s t) = refusal OddBytes 0
refusal_in (refused r) = r

same_fault : {i j : Judgement} → i ≡ j → (refusal_in i).fault ≡ (refusal_in j).fault
same_fault e = ap (λ i. (refusal_in i).fault) e

-- one check, of the offenders xs with the fault k
module _ {A : Type 0} (place : A → ℕ) (k : Fault) where
  passed : (xs : List A) (next : Judgement) {v n s t : ℕ} → refuse k (map place xs) next ≡ accepted v n s t → (xs ≡ []) × (next ≡ accepted v n s t)
  passed [] next e = (refl, e)
  passed (x ∷ xs) next e = let z : ◌≡◌ {A = ℕ} 0 1 = cc in absurd (omega arith)

  not-refused : (xs : List A) (next : Judgement) {m : Fault} {p : ℕ} → (k ≡ m → ⊥)
      → refuse k (map place xs) next ≡ refused (refusal m p) → next ≡ refused (refusal m p)
  not-refused [] next d e = e
  not-refused (x ∷ xs) next d e = absurd (d (same_fault e))

  refused-at : (xs : List A) (next : Judgement) {p : ℕ} → (next ≡ refused (refusal k p) → ⊥) → refuse k (map place xs) next ≡ refused (refusal k p)
      → (x : A) × (others : List A) × (xs ≡ x ∷ others) × (place x ≡ p)
  refused-at [] next d e = absurd (d e)
  refused-at (x ∷ xs) next d e = (x, xs, refl, ap (λ i. (refusal_in i).place) e)

module _ (#V : ℕ) (f : Formula) (A : List Label) where
  orders : OrderExists (before f A) A
  orders = order-exists (before f A) A (before-between f A)

  cycle-listed : (l : Label) → Chain (before f A) l l → has (on_cycles f A) l ≡ true
  cycle-listed l c = has-those (on_cycle (before f A) A) A l (chain-starts (before f A) A (before-between f A) c) ((orders.tested l).1 c)

  -- no check finds an offender
  record Passes : Type 0 where
    no_strangers : strangers f A ≡ []
    none_missed : missed #V f A ≡ []
    none_doubled : doubled #V f A ≡ []
    none-on-cycle : on_cycles f A ≡ []
    fits : length (keys f A) ≤ most_transitions

  accepts : Passes → judge #V f A ≡ accepted #V (length (labels f)) (length A) (length (keys f A))
  accepts p = rw (p.no_strangers, p.none_missed, p.none_doubled, p.none-on-cycle, le-ltb most_transitions (length (keys f A)) p.fits)

  -- the last check, of the number of transitions
  abbrev last_check : Bool → Judgement
  last_check more = cond more (refused (refusal TooMany 0)) (accepted #V (length (labels f)) (length A) (length (keys f A)))

  at_most : (more : Bool) {v n s t : ℕ} → ltb most_transitions (length (keys f A)) ≡ more → last_check more ≡ accepted v n s t
      → length (keys f A) ≤ most_transitions
  at_most true e q = let z : ◌≡◌ {A = ℕ} 0 1 = cc in absurd (omega arith)
  at_most false e q = ltb-false most_transitions (length (keys f A)) e

  passes : (v n s t : ℕ) → judge #V f A ≡ accepted v n s t → Passes
  passes v n s t e =
      let (no_strangers, e₁) = passed (λ l. l.0) NoCandidate (strangers f A) _ e in
      let (none_missed, e₂) = passed (λ v. v.0) VariableMissed (missed #V f A) _ e₁ in
      let (none_doubled, e₃) = passed (λ v. v.0) VariableTwice (doubled #V f A) _ e₂ in
      let (none-on-cycle, e₄) = passed (λ l. l.0) NoOrder (on_cycles f A) _ e₃ in
      record { no_strangers = no_strangers; none_missed = none_missed; none_doubled = none_doubled; none-on-cycle = none-on-cycle; fits = at_most _ refl e₄ }

  -- a test that no variable passes on any branch
  module _ (p : Variable → List Label → Bool) where
    abbrev Never : Type 0
    Never = (v : Variable) → v.0 < #V → (b : List Label) → Memᴰ b (branches f) → p v b ≡ false

    never : those (λ v. any_of (p v) (branches f)) (variables #V) ≡ [] → Never
    never e v h b t =
        not_so (p v b) λ q. true≢false (sym (to-any (p v) t q) ∙ of_none (λ v. any_of (p v) (branches f)) (variables #V) e v (to-variables #V v h))

    to-never : Never → those (λ v. any_of (p v) (branches f)) (variables #V) ≡ []
    to-never n = to_none (λ v. any_of (p v) (branches f)) (variables #V) λ v t. not_so _ λ h.
        let (b, u, q) = of-any (p v) (branches f) h in true≢false (sym q ∙ n v (in-variables #V v t) b u)

  -- what 10 passes, and what 11 and 12 pass
  pub homogeneous-of : strangers f A ≡ [] → Homogeneous f A
  homogeneous-of e l h = not-false (is_candidate f l) (of_none (λ l. not (is_candidate f l)) A e l (has-mem A l h))

  pub minimal-of : missed #V f A ≡ [] → doubled #V f A ≡ [] → MinimalCovering #V f A
  minimal-of e d n (b, t, v, h, q) =
      let some = eqb-false (chosen_on f A b v) 0 (never (λ v b. eqb (chosen_on f A b v) 0) e v h b t) in
      let few = ltb-false 1 (chosen_on f A b v) (never (λ v b. ltb 1 (chosen_on f A b v)) d v h b t) in
      omega arith

  passes-strategy : Passes → Strategy #V f A
  passes-strategy p = record {
    homogeneous = homogeneous-of p.no_strangers;
    minimal = minimal-of p.none_missed p.none_doubled;
    acyclic = orders.no_cycle.1 λ l c. false≢true (subst (λ ls. has ls l ≡ true) p.none-on-cycle (cycle-listed l c));
  }

  strategy-passes : Strategy #V f A → length (keys f A) ≤ most_transitions → Passes
  strategy-passes s fits = record {
    no_strangers = to_none (λ l. not (is_candidate f l)) A (λ l t. ap not (s.homogeneous l (mem-has t)));
    none_missed = to-never (λ v b. eqb (chosen_on f A b v) 0) (λ v h b t. ne_eqb (chosen_on f A b v) 0 (let e = s.minimal _ (b, t, v, h, refl) in omega arith));
    none_doubled = to-never (λ v b. ltb 1 (chosen_on f A b v))
        (λ v h b t. le-ltb 1 (chosen_on f A b v) (let e = s.minimal _ (b, t, v, h, refl) in omega arith));
    none-on-cycle = to_none (on_cycle (before f A) A) A (λ l t. not_so _ λ c. orders.no_cycle.0 s.acyclic l ((orders.tested l).0 c));
    fits = fits;
  }

  pub accepted-exactly : AcceptedExactly #V f A
  accepted-exactly = (λ e. let p = passes _ _ _ _ e in (passes-strategy p, p.fits), λ (s, fits). accepts (strategy-passes s fits))

  pub accepted-only-so : AcceptedOnlySo #V f A
  accepted-only-so v n s t e = accepts (passes v n s t e)

  last-not-13 : (more : Bool) {p : ℕ} → last_check more ≡ refused (refusal NoOrder p) → ⊥
  last-not-13 true e = let z : ◌≡◌ {A = Fault} TooMany NoOrder = same_fault e in cc
  last-not-13 false e = let z : ◌≡◌ {A = ℕ} 0 1 = cc in omega arith

  first-on-cycle : (place : ℕ) → judge #V f A ≡ refused (refusal NoOrder place)
      → (l : Label) × (others : List Label) × (on_cycles f A ≡ l ∷ others) × (l.0 ≡ place)
  first-on-cycle place e =
      let e₁ = not-refused (λ l. l.0) NoCandidate (strangers f A) _ (λ q. cc) e in
      let e₂ = not-refused (λ v. v.0) VariableMissed (missed #V f A) _ (λ q. cc) e₁ in
      let e₃ = not-refused (λ v. v.0) VariableTwice (doubled #V f A) _ (λ q. cc) e₂ in
      refused-at (λ l. l.0) NoOrder (on_cycles f A) _ (last-not-13 (ltb most_transitions (length (keys f A)))) e₃

  pub refusal-13 : Refusal13 #V f A
  refusal-13 rises place e =
      let (l, others, q, n) = first-on-cycle place e in
      let tested : on_cycle (before f A) A l ≡ true = (those-has (on_cycle (before f A) A) A l (rw q (has-head l others))).1 in
      let rest : Rising 0 (l ∷ others) = rw q at (rising-sub 0 (sub-those (on_cycle (before f A) A) A) rises) in
      record {
        cycle = subst (λ i. Chain (before f A) i i) (ap ℓ n) ((orders.tested l).0 tested);
        lowest = λ i c. subst (λ m. m ≤ i.0) n (rising-above {p = l.0} (l ∷ others) i ((omega arith), rest.1) (rw q at (cycle-listed i c)));
      }
