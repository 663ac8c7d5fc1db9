-- Refusal 10. The candidates of a formula that rows write are the rows of kind 2, so the first chosen label whose row is of another
-- kind is the first of the strangers. The search for the lowest offender serves refusal 13 too.
use Prim.Native.Nat.{ℕ, zero, suc, ◌+◌, ◌<◌, ◌≤◌}
use native.Mathlib.Omega.{arith}
use mathlib.Core.Path.{◌≡◌, refl, sym, ap, ◌∙◌}
use mathlib.Core.Bool.{Bool, true, false, not}
use mathlib.Core.List.Memᴰ
use mathlib.Core.List.{List, [], ◌∷◌, map}
use lib.Dec.{eqb}
use lib.ListN.{length, get_or}
use borrow.Author.Tests.{eq-eqb, eqb-true, not-false}
use Rattle.paper.specs.declared.Label.{Label}
use Rattle.paper.specs.Lists.{those}
use Rattle.paper.specs.Formula.{ℓ, same, Candidate, candidates, candidates_of, is_candidate, Formula, Formulas, FALSE}
use Rattle.paper.specs.Formula.{test, candidate, conjunction, disjunction, exists, IF, only, ◌⨾◌}
use Rattle.paper.specs.Judgement.{strangers}
use Rattle.paper.proofs.Bools.{same_answer}
use Rattle.paper.proofs.Lists.{to-any, of-any, of_none}
use Rattle.paper.proofs.Labels.{same_refl, same-eq}
use Rattle.entries.specs.First.{first}
use Rattle.rows.specs.Rows.{kind_of}
use Rattle.written.specs.Written.{size}
use Rattle.entries.proofs.First.{first_below, first-at}
use Rattle.written.proofs.Words.{word-mem, Each, each_none, each-cons, each_append}
use Rattle.written.proofs.Writes.{Writes, WritesAll}
use Rattle.net.proofs.Spans.{candidate-listed}
use Rattle.strategy.specs.Inside.Checks.{is_stranger}
use Rattle.strategy.specs.Judge.{proposal_of}
use Rattle.strategy.specs.Inside.Parts.{Parts, formula_of}
use Rattle.strategy.proofs.Held.{parts-write, rows_are}

-- The lowest of the numbered entries of a list that is an offender is the first of those that are.
module _ (p : Label → Bool) where
  first-offender : (xs : List ℕ) (k : ℕ) → ((j : ℕ) → j < k → p (ℓ (get_or xs j 0)) ≡ false) → k < length xs → p (ℓ (get_or xs k 0)) ≡ true
      → (others : List Label) × (those p (map ℓ xs) ≡ ℓ (get_or xs k 0) ∷ others)
  first-offender [] k below h e = absurd (omega arith)
  first-offender (x ∷ xs) zero below h e = (those p (map ℓ xs), rw e)
  first-offender (x ∷ xs) (suc k) below h e =
      rw (below 0 (omega arith)) (first-offender xs k (λ j l. below (suc j) (omega arith)) (omega arith) e)

  no-offender : (xs : List ℕ) → ((k : ℕ) → k < length xs → p (ℓ (get_or xs k 0)) ≡ false) → those p (map ℓ xs) ≡ []
  no-offender [] none = refl
  no-offender (x ∷ xs) none = rw (none 0 (omega arith)) (no-offender xs (λ k h. none (suc k) (omega arith)))

  module _ (xs : List ℕ) (bad : ℕ → Bool) (as-told : (k : ℕ) → k < length xs → bad k ≡ p (ℓ (get_or xs k 0))) where
    pub offender : first bad (length xs) < length xs → (others : List Label) × (those p (map ℓ xs) ≡ ℓ (get_or xs (first bad (length xs)) 0) ∷ others)
    offender h =
        first-offender xs (first bad (length xs)) (λ j l. sym (as-told j (omega arith)) ∙ first_below bad (length xs) j l) h
        (sym (as-told (first bad (length xs)) h) ∙ first-at bad (length xs) h)

    pub none-offends : length xs ≤ first bad (length xs) → those p (map ℓ xs) ≡ []
    none-offends h = no-offender xs (λ k l. sym (as-told k l) ∙ first_below bad (length xs) k (omega arith))

    pub none-was-bad : those p (map ℓ xs) ≡ [] → (k : ℕ) → k < length xs → bad k ≡ false
    none-was-bad e k h = as-told k h ∙ of_none p (map ℓ xs) e (ℓ (get_or xs k 0)) (Memᴰ.map ℓ (word-mem xs k h))

-- a candidate of a formula stands in a row of kind 2
module _ (rows reads : List ℕ) where
  abbrev InItsRow : Candidate → Type 0
  InItsRow c = kind_of rows c.label.0 ≡ 2

  mutual
    candidates-stand : (f : Formula) (i t : ℕ) → Writes rows reads f i t → Each InItsRow (candidates f)
    candidates-stand (FALSE l) i t w = each_none InItsRow
    candidates-stand (test s) i t w = each_none InItsRow
    candidates-stand (candidate l v s) i t w = each-cons InItsRow (rw w.0 w.1.kind_is) (each_none InItsRow)
    candidates-stand (conjunction l fs) i t w = all-stand fs (i + 1) t w.2
    candidates-stand (disjunction l fs) i t w = all-stand fs (i + 1) t w.2
    candidates-stand (exists l s f) i t w = candidates-stand f (i + 2) _ w.3
    candidates-stand (IF l s f g) i t w = each_append InItsRow (candidates f) (candidates-stand f (i + 2) _ w.3) (candidates-stand g _ _ w.4)

    all-stand : (fs : Formulas) (i t : ℕ) → WritesAll rows reads fs i t → Each InItsRow (candidates_of fs)
    all-stand (only f) i t w = candidates-stand f i t w
    all-stand (f ⨾ fs) i t w = each_append InItsRow (candidates f) (candidates-stand f i t w.0) (all-stand fs _ _ w.1)

  pub candidate-by-kind : (f : Formula) → Writes rows reads f 0 0 → (l : ℕ) → l < size f → is_candidate f (ℓ l) ≡ eqb (kind_of rows l) 2
  candidate-by-kind f w l h =
      same_answer _ _
      (λ e. let (c, t, q) = of-any (λ c. same (ℓ l) c.label) (candidates f) e in
      eq-eqb (kind_of rows l) 2 (ap (λ (i : Label). kind_of rows i.0) (same-eq (ℓ l) c.label q) ∙ candidates-stand f 0 0 w c t))
      (λ e. to-any (λ c. same (ℓ l) c.label)
      (candidate-listed rows reads l f 0 0 w (record { from = omega arith; below = omega arith; kind = eqb-true (kind_of rows l) 2 e })) (same_refl (ℓ l)))

module _ {rows reads chosen : List ℕ} {#V #N : ℕ} (p : Parts rows reads chosen #V #N) where
  stranger-by-kind : (k : ℕ) → k < length chosen → is_stranger rows chosen k ≡ not (is_candidate (formula_of rows reads) (ℓ (get_or chosen k 0)))
  stranger-by-kind k h =
      let b = p.below k h in
      let n = rows_are p in
      ap not (sym (candidate-by-kind rows reads (formula_of rows reads) (parts-write p) (get_or chosen k 0) (omega arith)))

  abbrev is_none : Label → Bool
  is_none l = not (is_candidate (formula_of rows reads) l)

  pub first-stranger : first (is_stranger rows chosen) (length chosen) < length chosen
      → (others : List Label)
      × (strangers (formula_of rows reads) (proposal_of chosen) ≡ ℓ (get_or chosen (first (is_stranger rows chosen) (length chosen)) 0) ∷ others)
  first-stranger = offender is_none chosen (is_stranger rows chosen) stranger-by-kind

  pub no-stranger : length chosen ≤ first (is_stranger rows chosen) (length chosen) → strangers (formula_of rows reads) (proposal_of chosen) ≡ []
  no-stranger = none-offends is_none chosen (is_stranger rows chosen) stranger-by-kind

  -- with no strangers, each chosen label's row is of kind 2
  pub kinds-of : strangers (formula_of rows reads) (proposal_of chosen) ≡ [] → (k : ℕ) → k < length chosen → kind_of rows (get_or chosen k 0) ≡ 2
  kinds-of e k h = eqb-true _ 2 (not-false _ (none-was-bad is_none chosen (is_stranger rows chosen) stranger-by-kind e k h))
