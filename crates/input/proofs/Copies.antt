-- Copying word by word leaves what `copied` says.
use Prim.Native.Nat.{ℕ, suc, ◌+◌, ◌<◌, ◌≤◌}
use native.Mathlib.Numerals.{add-one}
use native.Mathlib.Omega.{arith}
use mathlib.Core.Path.{◌≡◌, refl, sym, ap, ◌∙◌}
use mathlib.Core.List.{List, ◌++◌}
use lib.ListN.{length, get_or, take, drop, set, length-set}
use lib.Seq.{drop-cons, take-suc, set_at, append_snoc, take_all, length-take-le}
use Rattle.entries.specs.Front.{in_front}
use Rattle.input.specs.Inside.Copied.{copied}

pub copied_none : (from out : List ℕ) → out ≡ copied from 0 out
unfolding copied
copied_none from out = refl

pub copied_more : (from out : List ℕ) (k : ℕ) → k < length from → k < length out → set (copied from k out) k (get_or from k 0) ≡ copied from (k + 1) out
unfolding copied
copied_more from out k hf ho =
    rw add-one
    (ap (λ (r : List ℕ). set (take k from ++ r) k (get_or from k 0)) (drop-cons out k 0 ho)
    ∙ set_at (take k from) (get_or out k 0) (drop (suc k) out) (get_or from k 0) k (length-take-le k from (omega arith))
    ∙ sym (append_snoc (take k from) (get_or from k 0) (drop (suc k) out))
    ∙ ap (λ (r : List ℕ). r ++ drop (suc k) out) (sym (take-suc from k 0 hf)))

pub copied_all : (from out : List ℕ) → copied from (length from) out ≡ in_front from out
unfolding copied
copied_all from out = ap (λ (ws : List ℕ). ws ++ drop (length from) out) (take_all (length from) from (omega arith))

-- a copy of `count` entries that has come to entry i
pub record Copying (from : List ℕ) (count : ℕ) (lent out : List ℕ) (i : ℕ) : Type 0 where
  pub so_far : i ≤ count
  pub as_long : length out ≡ length lent
  pub stands : out ≡ copied from i lent

module _ (from : List ℕ) (count : ℕ) (lent : List ℕ) where
  pub copy-starts : Copying from count lent lent 0
  copy-starts = record { so_far = omega arith; as_long = refl; stands = copied_none from lent }

  pub copy-goes-on : (out : List ℕ) (i : ℕ) → count ≤ length from → count ≤ length lent → i < count → Copying from count lent out i
      → Copying from count lent (set out i (get_or from i 0)) (i + 1)
  copy-goes-on out i there room h c = record {
    so_far = omega arith;
    as_long = simp length-set c.as_long;
    stands = ap (λ (l : List ℕ). set l i (get_or from i 0)) c.stands ∙ copied_more from lent i (omega arith) (omega arith);
  }

  pub copy-ends : (out : List ℕ) (i : ℕ) → count ≤ i → Copying from count lent out i → out ≡ copied from count lent
  copy-ends out i h c = let e : i ≡ count = omega arith in c.stands ∙ ap (λ (n : ℕ). copied from n lent) e
