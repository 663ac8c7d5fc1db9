-- Fields of numbers: those put one after another are the fields of the numbers joined, and the next position is a field or none. By
-- induction over the numbers and over the bytes.
use Prim.Native.Nat.{ℕ, suc, ◌+◌, ◌<◌}
use native.Mathlib.Nat.{suc-add, add-suc, add-zero, zero-add}
use native.Mathlib.Numerals.{add-one}
use native.Mathlib.Omega.{arith}
use mathlib.Core.Path.{◌≡◌, refl, ◌∙◌}
use mathlib.Core.Bool.{Bool, true, false, cond}
use mathlib.Core.List.{List, [], ◌∷◌, ◌++◌, append_assoc, append-nil}
use lib.Dec.{eqb}
use lib.ListN.{length, get_or, take}
use lib.Seq.{length-take-le, take-suc}
use borrow.Author.Tests.{eq-eqb, ne_eqb}
use Rattle.marks.specs.Marks.{positions_from, positions}
use Rattle.listing.specs.declared.Pen.{Pen}
use Rattle.listing.specs.Text.{field, fields}
use Rattle.listing.specs.Inside.Placed.{Puts}
use Rattle.listing.proofs.Placing.{puts_then}

pub fields-append : (ms ns : List ℕ) → fields (ms ++ ns) ≡ fields ms ++ fields ns
unfolding fields
fields-append [] ns = refl
fields-append (m ∷ ms) ns = rw (fields-append ms ns, append_assoc (field m) (fields ms) (fields ns))

pub fields-one-more : (ns : List ℕ) (n : ℕ) → fields (ns ++ n ∷ []) ≡ fields ns ++ field n
unfolding fields
fields-one-more ns n = fields-append ns (n ∷ []) ∙ rw append-nil

pub fields-next : (ns : List ℕ) (i : ℕ) → i < length ns → fields (take (i + 1) ns) ≡ fields (take i ns) ++ field (get_or ns i 0)
fields-next ns i h = rw (add-one, take-suc ns i 0 h) (fields-one-more (take i ns) (get_or ns i 0))

-- one field more behind a word and fields
pub put-one-more : (word ns : List ℕ) (n : ℕ) {before mid after : Pen} → Puts before (word ++ fields ns) mid → Puts mid (field n) after
    → Puts before (word ++ fields (ns ++ n ∷ [])) after
put-one-more word ns n p q = rw (fields-one-more ns n, ← append_assoc word (fields ns) (field n)) (puts_then p q)

-- a position in front, where its byte is 1
first-or-not : (t : Bool) (k : ℕ) (ks ls : List ℕ) → cond t (k ∷ (ks ++ ls)) (ks ++ ls) ≡ cond t (k ∷ ks) ks ++ ls
first-or-not true k ks ls = refl
first-or-not false k ks ls = refl

positions-append : (k : ℕ) (bs cs : List ℕ) → positions_from k (bs ++ cs) ≡ positions_from k bs ++ positions_from (k + length bs) cs
unfolding positions_from
positions-append k [] cs = rw add-zero
positions-append k (b ∷ bs) cs =
    rw (positions-append (suc k) bs cs, add-suc, ← suc-add k (length bs))
    (first-or-not (eqb b 1) k (positions_from (suc k) bs) (positions_from (suc k + length bs) cs))

pub positions-next : (bs : List ℕ) (i : ℕ) → i < length bs
    → fields (positions (take (i + 1) bs)) ≡ fields (positions (take i bs)) ++ fields (positions_from i (get_or bs i 0 ∷ []))
unfolding positions
positions-next bs i h =
    rw (
      add-one,
      take-suc bs i 0 h,
      positions-append 0 (take i bs) (get_or bs i 0 ∷ []),
      length-take-le i bs (omega arith),
      zero-add,
      fields-append (positions_from 0 (take i bs)) (positions_from i (get_or bs i 0 ∷ [])),
    )

pub position-kept : (k b : ℕ) → b ≡ 1 → fields (positions_from k (b ∷ [])) ≡ field k
unfolding fields positions_from
position-kept k b h = rw (eq-eqb b 1 h, append-nil)

pub position-left-out : (k b : ℕ) → (b ≡ 1 → ⊥) → fields (positions_from k (b ∷ [])) ≡ []
unfolding fields positions_from
position-left-out k b h = rw (ne_eqb b 1 h)
