-- The words of bytes: half as many as the bytes, and the word at i is made of the bytes at 2i and 2i + 1. By induction, two bytes
-- at a time.
use Prim.Native.Nat.{ℕ, zero, suc, ◌+◌, ◌*◌, ◌/◌, ◌<◌, ◌≤◌}
use native.Mathlib.Omega.{arith}
use mathlib.Core.Path.{◌≡◌, refl, sym, ap, ◌∙◌}
use mathlib.Core.List.{List, [], ◌∷◌}
use lib.ListN.{length, get_or, take, drop, set}
use lib.Seq.{take_at}
use Rattle.std.specs.Int.{w16, from_le_bytes}
use Rattle.input.specs.Inside.Copied.{copied}
use Rattle.input.proofs.Copies.{copied_all, Copying, copy-goes-on, copy-ends}
use Rattle.input.specs.Bytes.{words_of}
use Rattle.input.specs.Inside.Words.{WordsIn}

pub words-length : (bytes : List ℕ) → length (words_of bytes) ≡ length bytes / 2
unfolding words_of
words-length [] = refl
words-length (low ∷ []) = refl
words-length (low ∷ high ∷ bytes) = let n = words-length bytes in omega arith

word_at : (bytes : List ℕ) (i : ℕ) → i < length bytes / 2 → get_or (words_of bytes) i 0 ≡ get_or bytes (2 * i) 0 + 256 * get_or bytes (2 * i + 1) 0
unfolding words_of
word_at [] i h = absurd (omega arith)
word_at (low ∷ []) i h = absurd (omega arith)
word_at (low ∷ high ∷ bytes) zero h = refl
word_at (low ∷ high ∷ bytes) (suc i) h =
    let behind : 2 * suc i + 1 ≡ suc (suc (2 * i + 1)) = omega arith in
    let first : 2 * suc i ≡ suc (suc (2 * i)) = omega arith in
    rw (behind, first) (word_at bytes i (omega arith))

-- the word that the library makes of two bytes
pub word-of : (low high : ℕ) {w : ℕ} → w ≡ from_le_bytes w16 (low ∷ high ∷ []) → w ≡ low + 256 * high
word-of low high e = e ∙ omega arith

-- the words are put one after another, as if they were copied
abbrev pub Putting : List ℕ → List ℕ → List ℕ → ℕ → Type 0
Putting bytes lent words i = Copying (words_of bytes) (length bytes / 2) lent words i

module _ (bytes lent : List ℕ) (room : length bytes / 2 ≤ length lent) where
  pub word-put : {words : List ℕ} {i w : ℕ} → i < length bytes / 2 → w ≡ get_or bytes (2 * i) 0 + 256 * get_or bytes (2 * i + 1) 0
      → Putting bytes lent words i → Putting bytes lent (set words i w) (i + 1)
  word-put {words} {i} h e c =
      let there = words-length bytes in
      rw (e ∙ sym (word_at bytes i h)) (copy-goes-on (words_of bytes) (length bytes / 2) lent words i (omega arith) room h c)

  pub words-in : {words : List ℕ} {i : ℕ} → length bytes / 2 ≤ i → Putting bytes lent words i → WordsIn bytes lent words (length bytes / 2)
  words-in {words} {i} h c =
      let there = sym (words-length bytes) in
      record {
        many = there;
        half = refl;
        stand =
            copy-ends (words_of bytes) (length bytes / 2) lent words i h c ∙ ap (λ n. copied (words_of bytes) n lent) there ∙ copied_all (words_of bytes) lent;
      }

-- once they are put, they are the first ones
pub words-front : {bytes lent words : List ℕ} {count : ℕ} → WordsIn bytes lent words count → take count words ≡ words_of bytes
words-front {bytes} {lent} {count = count} w =
    ap (take count) w.stand ∙ take_at (words_of bytes) (drop (length (words_of bytes)) lent) count (sym w.many)
