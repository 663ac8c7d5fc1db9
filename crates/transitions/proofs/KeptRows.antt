-- What key k of the formula at a row keeps, row by row: a leaf keeps itself, and a join keeps what the expressions under it keep
-- in their turns. The paper's quotient, remainder and offset are those of the turns, for a number of keys within the limit is
-- counted as it is.
use Prim.Native.Nat.{ℕ, zero, suc, ◌-◌, ◌*◌, ◌/◌, ◌%◌, ◌<◌, ◌≤◌}
use native.Mathlib.Omega.{arith}
use native.Mathlib.Numerals.{sub-one}
use native.Mathlib.Nat.{mul-one, div-one}
use mathlib.Core.Path.{◌≡◌, refl, sym, ap, ap₂, ◌∙◌}
use mathlib.Core.Bool.{Bool, true, false, cond, not, ◌||◌}
use mathlib.Core.Logic.{◌⊎◌, inl, inr}
use mathlib.Core.List.{List, [], ◌∷◌, ◌++◌, append-nil}
use lib.Dec.{eqb, ltb}
use borrow.Author.Tests.{ltb-false, lt-ltb, eqb-true, eqb-false, ne_eqb}
use Rattle.std.specs.Prelude.{Option, None, Some}
use Rattle.std.specs.Bool.{then_some}
use Rattle.paper.specs.Limits.{most_transitions}
use Rattle.paper.specs.declared.Label.{Label}
use Rattle.paper.specs.Formula.{ℓ, Formula, Formulas}
use Rattle.paper.specs.Inside.Structure.KeyCount.{key_count_of, number_of, number_of_each}
use Rattle.paper.specs.Inside.Structure.Kept.{kept_at, kept_each, kept_any, kept_all}
use Rattle.rows.specs.Rows.{kind_of, arg_of, end_of, form_of}
use Rattle.rows.specs.declared.form.Form.{Form}
use Rattle.rows.specs.declared.form.Form.TheVariants as form
use Rattle.rows.specs.Formula.{star_at, children_at, node_at, formula_at}
use Rattle.rows.specs.Inside.Walk.{expressions, first_under, expressions_at, first_at, Walkable}
use Rattle.rows.proofs.Forms.{by_form}
use Rattle.rows.proofs.Walks.{Along, along_under, along-on, along-next}
use Rattle.keys.specs.declared.Distinct.{Distinct}
use Rattle.marks.specs.Inside.Chosen.{Marked}
use Rattle.keys.specs.Inside.Keys.{total, keys_at}
use Rattle.keys.proofs.KeyNumbers.{keys-number, keys-empty}
use Rattle.keys.proofs.KeysUnder.{product_of, AllWithin, within_more, factors-within, numbers_from, totals_from}
use Rattle.keys.proofs.KeysUnder.{keys-multiply, keys-add, keys-within, keys-pass}
use Rattle.transitions.specs.declared.Shares.{Shares}
use Rattle.transitions.specs.declared.Shares.TheVariants.{Each, All, One, Done}
use Rattle.transitions.specs.declared.Turn.{Turn}
use Rattle.transitions.specs.Inside.Kept.{one_turn, turn_of, goes_by_each, shares_of}
use Rattle.transitions.proofs.Sharing.{Fits, divided, fits_next}

-- a row of a form, its children being read with one level less
formula-node : (rows reads : List ℕ) (left i : ℕ) → (left ≡ 0 → ⊥)
    → formula_at rows reads left i ≡ node_at rows reads (formula_at rows reads (left - 1)) i (form_of (kind_of rows i))
unfolding formula_at
formula-node rows reads zero i deep = absurd (deep refl)
formula-node rows reads (suc left) i deep = rw (sub-one (suc left))

-- the expressions under row i
abbrev under : List ℕ → List ℕ → ℕ → ℕ → Formulas
under rows reads left i = children_at rows reads (formula_at rows reads (left - 1)) (expressions_at rows i - 1) (first_at rows i)

-- what expressions keep of key k: by quotient and remainder, or all of them, or by offset
abbrev kept_of_under : List Label → Bool → Bool → Formulas → ℕ → List Label
kept_of_under A each empty fs k = cond each (kept_each A fs k) (cond empty (kept_all A fs) (kept_any A fs k))

-- the forms without expressions under them
abbrev pub IsLeaf : Form → Type 0
IsLeaf f = (f ≡ form.False) ⊎ ((f ≡ form.Star) ⊎ ((f ≡ form.Candidate) ⊎ (f ≡ form.Unknown)))

-- a conjunction's expressions go by quotient and remainder, and so does the one of an exists
abbrev pub each_under : ℕ → Bool
each_under kind = eqb kind 3 || eqb kind 5

pub each-kind : (k : ℕ) → goes_by_each (form_of k) ≡ each_under k
each-kind k =
    by_form (λ f. goes_by_each f ≡ each_under k) k (λ e. rw e) (λ e. rw e) (λ e. rw e) (λ e. rw e) (λ e. rw e) (λ e. rw e) (λ e. rw e)
    (λ h. let apart = ne_eqb k 3 (λ e. omega arith) in let apart' = ne_eqb k 5 (λ e. omega arith) in rw (apart, apart'))

module _ (A : List Label) (rows reads : List ℕ) (left i k : ℕ) where
  -- with no level left, and at a row without expressions under it
  pub kept-none : left ≡ 0 → kept_at A (formula_at rows reads left i) k ≡ ℓ i ∷ []
  unfolding formula_at
  kept-none e = rw e

  module _ (deep : left ≡ 0 → ⊥) where
    pub kept-lone : {f : Form} → f ≡ form_of (kind_of rows i) → IsLeaf f
        → kept_at A (formula_at rows reads left i) k ≡ ℓ i ∷ []
    unfolding node_at star_at
    kept-lone e (inl g) = rw (formula-node rows reads left i deep, ← e, g)
    kept-lone e (inr (inl g)) = rw (formula-node rows reads left i deep, ← e, g)
    kept-lone e (inr (inr (inl g))) = rw (formula-node rows reads left i deep, ← e, g)
    kept-lone e (inr (inr (inr g))) = rw (formula-node rows reads left i deep, ← e, g)

    kept-join : 2 < kind_of rows i → kind_of rows i < 7
        → kept_at A (formula_at rows reads left i) k
        ≡ kept_of_under A (each_under (kind_of rows i)) (key_count_of A (formula_at rows reads left i)).empty (under rows reads left i) k
    unfolding node_at children_at
    kept-join high known = rw (formula-node rows reads left i deep)
        (by_form (λ f. kept_at A (node_at rows reads at i f) k
        ≡ kept_of_under A (each_under kind) (key_count_of A (node_at rows reads at i f)).empty
        (children_at rows reads at (expressions f (arg_of rows i) - 1) (first_under f i)) k) kind
        (λ e. absurd (omega arith))
        (λ e. absurd (omega arith))
        (λ e. absurd (omega arith))
        (λ e. rw e)
        (λ e. rw e)
        (λ e. rw e)
        (λ e. rw e)
        (λ e. absurd (omega arith)))
      where
        kind : ℕ
        kind = kind_of rows i

        at : ℕ → Formula
        at = formula_at rows reads (left - 1)

-- the turn of the expression at row i
abbrev pub turn_at : List ℕ → List ℕ → ℕ → Shares → ℕ → Turn
turn_at rows marks left s i = turn_of s (total (keys_at rows marks left i))

module _ (A : List Label) (rows marks reads : List ℕ) (left : ℕ) where
  -- what the expression at row i keeps in a turn
  abbrev pub kept_by : Option ℕ → ℕ → List Label
  kept_by None i = []
  kept_by (Some k) i = kept_at A (formula_at rows reads left i) k

  abbrev pub kept_in : Turn → ℕ → List Label
  kept_in t i = kept_by t.key i

  -- what m expressions from row i on keep in their turns, each at the end of the one before
  unfoldable pub kept_from : Shares → ℕ → ℕ → List Label
  kept_from s zero i = []
  kept_from s (suc m) i = kept_in (turn_at rows marks left s i) i ++ kept_from (turn_at rows marks left s i).next m (end_of rows i)

  pub kept_step : (s : Shares) (m i : ℕ) → 0 < m
      → kept_from s m i ≡ kept_in (turn_at rows marks left s i) i ++ kept_from (turn_at rows marks left s i).next (m - 1) (end_of rows i)
  unfolding kept_from
  kept_step s zero i some = absurd (omega arith)
  kept_step s (suc m) i some = rw (sub-one (suc m))

  pub kept-end : (s : Shares) (m i : ℕ) → m ≡ 0 → kept_from s m i ≡ []
  unfolding kept_from
  kept-end s m i e = rw e

  pub none_after : (m i : ℕ) → kept_from Done m i ≡ []
  unfolding kept_from turn_of
  none_after zero i = refl
  none_after (suc m) i = none_after m (end_of rows i)

some_more : (more : ℕ) → 0 < suc more
some_more more = omega arith

others : {rows : List ℕ} {#N more i : ℕ} → Along rows #N (suc (suc more)) i → Along rows #N (suc more) (end_of rows i)
others {more = more} a = rw (sub-one (suc (suc more))) at (along-next a (some_more (suc more)))

-- where the marks are those of A, and the rows can be walked
module _ (A : List Label) (marks : List ℕ) (marked : Marked A marks) (rows reads : List ℕ) (#N left : ℕ) where
  abbrev own : ℕ → ℕ
  own i = total (keys_at rows marks left i)

  abbrev totals : ℕ → ℕ → List ℕ
  totals m i = totals_from rows marks left m i

  abbrev child : ℕ → Formula
  child i = formula_at rows reads left i

  abbrev children : ℕ → ℕ → Formulas
  children more i = children_at rows reads child more i

  abbrev from : Shares → ℕ → ℕ → List Label
  from s m i = kept_from A rows marks reads left s m i

  number_is : {i : ℕ} → Walkable rows #N i → own i ≤ most_transitions → number_of A (child i) ≡ own i
  number_is {i} w few = sym (keys-number rows marks left i A marked w reads few)

  number-each : (more i : ℕ) → Along rows #N (suc more) i → AllWithin most_transitions (totals (suc more) i)
      → number_of_each A (children more i) ≡ product_of (totals (suc more) i)
  unfolding numbers_from children_at
  number-each zero i a h = number_is (along-on a (some_more zero)) h.0 ∙ sym (mul-one (own i))
  number-each (suc more) i a h =
      ap₂ ◌*◌ (number_is (along-on a (some_more (suc more))) h.0) (number-each more (end_of rows i) (others a) h.1)

  -- by quotient and remainder
  each_from : (more i k all : ℕ) → Along rows #N (suc more) i → Fits (Each k all) (totals (suc more) i)
      → kept_each A (children more i) k ≡ from (Each k all) (suc more) i
  unfolding numbers_from children_at kept_from turn_of
  each_from zero i k all a f = rw ((divided f.0 f.1).rest, div-one, append-nil)
  each_from (suc more) i k all a f =
      let d = divided f.0 f.1 in
      let ns = totals (suc more) (end_of rows i) in
      let n = number-each more (end_of rows i) (others a) (within_more ns (omega arith) (factors-within ns d.others)) ∙ sym d.rest in
      ap₂ ◌++◌ (ap (λ q. kept_at A (child i) (k / q)) n)
      (ap (λ q. kept_each A (children more (end_of rows i)) (k % q)) n
      ∙ each_from more (end_of rows i) (k % (all / own i)) (all / own i) (others a) (fits_next (own i) ns (Each k all) f))

  -- by offset
  in-turn : (more i k : ℕ) (t : Bool) → (t ≡ false → kept_any A (children more (end_of rows i)) (k - own i) ≡ from (One (k - own i)) (suc more) (end_of rows i))
      → cond t (kept_at A (child i) k) (kept_any A (children more (end_of rows i)) (k - own i))
      ≡ kept_in A rows marks reads left (one_turn t k (own i)) i ++ from (one_turn t k (own i)).next (suc more) (end_of rows i)
  in-turn more i k true later = sym (ap (λ ls. kept_at A (child i) k ++ ls) (none_after A rows marks reads left (suc more) (end_of rows i)) ∙ append-nil _)
  in-turn more i k false later = later refl

  any-from : (more i k : ℕ) → Along rows #N (suc more) i → Fits (One k) (totals (suc more) i)
      → kept_any A (children more i) k ≡ from (One k) (suc more) i
  unfolding numbers_from children_at kept_from turn_of
  any-from zero i k a f = rw (lt-ltb k (own i) (omega arith)) (sym (append-nil _))
  any-from (suc more) i k a f =
      rw (number_is (along-on a (some_more (suc more))) (omega arith))
      (in-turn more i k (ltb k (own i)) λ e.
      let h = ltb-false k (own i) e in any-from more (end_of rows i) (k - own i) (others a) (omega arith, omega arith))

  -- all, each in its first key
  where-any : (t : Bool) (i : ℕ) → cond t [] (kept_at A (child i) 0) ≡ kept_by A rows marks reads left (then_some (not t) 0) i
  where-any true i = refl
  where-any false i = refl

  all_from : (more i : ℕ) → Along rows #N (suc more) i → Fits All (totals (suc more) i)
      → kept_all A (children more i) ≡ from All (suc more) i
  unfolding numbers_from children_at kept_from turn_of
  all_from zero i a f = rw (number_is (along-on a (some_more zero)) f.0) (where-any (eqb (own i) 0) i ∙ sym (append-nil _))
  all_from (suc more) i a f =
      rw (number_is (along-on a (some_more (suc more))) f.0)
      (ap₂ ◌++◌ (where-any (eqb (own i) 0) i) (all_from more (end_of rows i) (others a) f.1))

  all-or-any : (e : Bool) (more i k : ℕ) → Along rows #N (suc more) i → Fits (cond e All (One k)) (totals (suc more) i)
      → cond e (kept_all A (children more i)) (kept_any A (children more i) k) ≡ from (cond e All (One k)) (suc more) i
  all-or-any true more i k a f = all_from more i a f
  all-or-any false more i k a f = any-from more i k a f

  under-from : (each : Bool) (keys : Distinct) (m i k : ℕ) → 0 < m → Along rows #N m i → Fits (shares_of each keys k) (totals m i)
      → kept_of_under A each keys.empty (children (m - 1) i) k ≡ from (shares_of each keys k) m i
  unfolding shares_of
  under-from each keys zero i k some a f = absurd (omega arith)
  under-from true keys (suc more) i k some a f = rw (sub-one (suc more)) (each_from more i k (total keys) a f)
  under-from false keys (suc more) i k some a f = rw (sub-one (suc more)) (all-or-any keys.empty more i k a f)

-- a row with expressions under it, the number of whose keys is within the limit, and one of its keys
module _ {rows : List ℕ} {#N i : ℕ} (marks : List ℕ) (left k : ℕ) (w : Walkable rows #N i) (deep : left ≡ 0 → ⊥) (join : 2 < kind_of rows i)
    (few : total (keys_at rows marks left i) ≤ most_transitions) (among : k < total (keys_at rows marks left i)) where
  abbrev keys : Distinct
  keys = keys_at rows marks left i

  abbrev totals_under : List ℕ
  totals_under = totals_from rows marks (left - 1) (expressions_at rows i) (first_at rows i)

  all-or-one : (e : Bool) → keys.empty ≡ e → (kind_of rows i ≡ 3 → ⊥) → Fits (cond e All (One k)) totals_under
  all-or-one true e apart = keys-within marks left w deep join few apart
  all-or-one false e apart = let s = keys-add marks left w deep join few apart e in (omega arith, omega arith)

  each-product : (c d : Bool) → eqb (kind_of rows i) 3 ≡ c → eqb (kind_of rows i) 5 ≡ d → Fits (shares_of (c || d) keys k) totals_under
  unfolding shares_of
  each-product true d p q = (keys-multiply marks left w deep join few (eqb-true _ _ p) (omega arith), among, few)
  each-product false true p q = (keys-pass marks left w deep join few (eqb-true _ _ q), among, few)
  each-product false false p q = all-or-one keys.empty refl (eqb-false _ _ p)

  -- the expressions under it can take part in that key
  pub fits_under : Fits (shares_of (each_under (kind_of rows i)) keys k) totals_under
  fits_under = each-product _ _ refl refl

  -- and what the key keeps is what they keep in their turns
  pub kept_under : (A : List Label) → Marked A marks → (reads : List ℕ)
      → kept_at A (formula_at rows reads left i) k
      ≡ kept_from A rows marks reads (left - 1) (shares_of (each_under (kind_of rows i)) keys k) (expressions_at rows i) (first_at rows i)
  kept_under A marked reads =
      kept-join A rows reads left i k deep join (w.shaped.known i w.here)
      ∙ ap (λ e. kept_of_under A (each_under (kind_of rows i)) e (under rows reads left i) k) (sym (keys-empty rows marks left i A marked w reads))
      ∙ under-from A marks marked rows reads #N (left - 1) (each_under (kind_of rows i)) keys (expressions_at rows i) (first_at rows i) k
      (w.shaped.joined i w.here join) (along_under w) fits_under
