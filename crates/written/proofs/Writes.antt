-- Rows that write a formula: what the row rules and the writer have in common, said by recursion on the formula.
use Prim.Native.Nat.{ℕ, ◌+◌}
use mathlib.Core.Path.{◌≡◌}
use mathlib.Core.List.{List, map}
use lib.ListN.{length, take, drop}
use Rattle.paper.specs.Formula.{ℓ, 𝓋, Star, Formula, Formulas, FALSE, test, candidate, conjunction, disjunction, exists, IF, only, ◌⨾◌, labels_of}
use Rattle.rows.specs.Rows.{kind_of, arg_of, end_of, from_of}
use Rattle.written.specs.Written.{taken_reads, size, width}

module _ (rows reads : List ℕ) where
  -- row i has these words
  pub record RowIs (i kind arg end from : ℕ) : Type 0 where
    pub kind_is : kind_of rows i ≡ kind
    pub arg_is : arg_of rows i ≡ arg
    pub end_is : end_of rows i ≡ end
    pub from_is : from_of rows i ≡ from

  -- row i is the star s, with t reads taken before it
  pub record StarIs (s : Star) (i t : ℕ) : Type 0 where
    pub label_is : s.label ≡ ℓ i
    pub row_is : RowIs i 1 (length s.reads) (i + 1) t
    pub reads_are : s.reads ≡ map 𝓋 (take (length s.reads) (drop t reads))

  -- the rows from i on write a formula, with t reads taken before them
  abbrev mutual
    pub Writes : Formula → ℕ → ℕ → Type 0
    Writes (FALSE l) i t = (l ≡ ℓ i) × RowIs i 0 0 (i + 1) t
    Writes (test s) i t = StarIs s i t
    Writes (candidate l v s) i t = (l ≡ ℓ i) × RowIs i 2 v.0 (i + 2) t × StarIs s (i + 1) t
    Writes (conjunction l fs) i t = (l ≡ ℓ i) × RowIs i 3 (width fs) (i + 1 + length (labels_of fs)) t × WritesAll fs (i + 1) t
    Writes (disjunction l fs) i t = (l ≡ ℓ i) × RowIs i 4 (width fs) (i + 1 + length (labels_of fs)) t × WritesAll fs (i + 1) t
    Writes (exists l s f) i t = (l ≡ ℓ i) × RowIs i 5 0 (i + 2 + size f) t × StarIs s (i + 1) t × Writes f (i + 2) (t + length s.reads)
    Writes (IF l s f g) i t =
        (l ≡ ℓ i) × RowIs i 6 0 (i + 2 + (size f + size g)) t × StarIs s (i + 1) t × Writes f (i + 2) (t + length s.reads)
        × Writes g (i + 2 + size f) (t + length s.reads + length (taken_reads f))

    pub WritesAll : Formulas → ℕ → ℕ → Type 0
    WritesAll (only f) i t = Writes f i t
    WritesAll (f ⨾ fs) i t = Writes f i t × WritesAll fs (i + size f) (t + length (taken_reads f))
