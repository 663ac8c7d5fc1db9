-- A table (names, formula, strategy), and the words that write it (document 01, "The formula table"). Ends, froms and
-- reads are worked out from the formula.
use Rattle.std.specs.Prelude.{ℕ, zero, suc, ◌+◌, ◌<◌, ◌≤◌, max, ◌≡◌, length}
use mathlib.Core.List.{List, [], ◌∷◌, ◌++◌, map, Memᴰ}
use Rattle.paper.specs.Limits.{most_chosen, most_depth, most_reads, most_rows, most_variables}
use Rattle.paper.specs.declared.Label.{Label}
use Rattle.paper.specs.declared.Variable.{Variable}
use Rattle.paper.specs.Formula.{ℓ, Star, Candidate, Formula, Formulas, FALSE, test, candidate, conjunction, disjunction}
use Rattle.paper.specs.Formula.{exists, IF, only, ◌⨾◌, labels, labels_of, stars, candidates, Rising}

pub record Table : Type 0 where
  pub names : List ℕ
  pub formula : Formula
  pub strategy : List Label

-- the reads of a star, as words; the reads that stars take, one star after another
abbrev pub read_words : Star → List ℕ
read_words s = map (λ v. v.0) s.reads

abbrev pub reads_from : List Star → List ℕ
reads_from [] = []
reads_from (s ∷ ss) = read_words s ++ reads_from ss

abbrev pub taken_reads : Formula → List ℕ
taken_reads f = reads_from (stars f)

-- how many rows a formula takes: one for each label
abbrev pub size : Formula → ℕ
size f = length (labels f)

-- how many children
abbrev pub width : Formulas → ℕ
width (only f) = 1
width (f ⨾ fs) = suc (width fs)

-- a row's four words
abbrev pub row_words : ℕ → ℕ → ℕ → ℕ → List ℕ
row_words kind arg end from = kind ∷ arg ∷ end ∷ from ∷ []

-- a star at row i, with t reads taken before it
abbrev pub star_words : Star → ℕ → ℕ → List ℕ
star_words s i t = row_words 1 (length s.reads) (i + 1) t

-- the rows of a formula at row i, with t reads taken before it
abbrev mutual
  pub rows_from : Formula → ℕ → ℕ → List ℕ
  rows_from (FALSE l) i t = row_words 0 0 (i + 1) t
  rows_from (test s) i t = star_words s i t
  rows_from (candidate l v s) i t = row_words 2 v.0 (i + 2) t ++ star_words s (i + 1) t
  rows_from (conjunction l fs) i t = row_words 3 (width fs) (i + 1 + length (labels_of fs)) t ++ rows_from_all fs (i + 1) t
  rows_from (disjunction l fs) i t = row_words 4 (width fs) (i + 1 + length (labels_of fs)) t ++ rows_from_all fs (i + 1) t
  rows_from (exists l s f) i t = row_words 5 0 (i + 2 + size f) t ++ star_words s (i + 1) t ++ rows_from f (i + 2) (t + length s.reads)
  rows_from (IF l s f g) i t =
      row_words 6 0 (i + 2 + (size f + size g)) t ++ star_words s (i + 1) t ++ rows_from f (i + 2) (t + length s.reads)
      ++ rows_from g (i + 2 + size f) (t + length s.reads + length (taken_reads f))

  pub rows_from_all : Formulas → ℕ → ℕ → List ℕ
  rows_from_all (only f) i t = rows_from f i t
  rows_from_all (f ⨾ fs) i t = rows_from f i t ++ rows_from_all fs (i + size f) (t + length (taken_reads f))

-- a section: its count and its entries
abbrev pub section : List ℕ → List ℕ
section entries = length entries ∷ entries

-- the words of a table
unfoldable pub written : Table → List ℕ
written t =
    section t.names ++ section (taken_reads t.formula)
    ++ (size t.formula ∷ rows_from t.formula 0 0)
    ++ section (map (λ l. l.0) t.strategy)

-- The depth of a formula's deepest row, stars included; its first row has depth 1.
abbrev mutual
  pub depth : Formula → ℕ
  depth (FALSE l) = 1
  depth (test s) = 1
  depth (candidate l v s) = 2
  depth (conjunction l fs) = suc (depth_of_all fs)
  depth (disjunction l fs) = suc (depth_of_all fs)
  depth (exists l s f) = suc (depth f)
  depth (IF l s f g) = suc (max (depth f) (depth g))

  pub depth_of_all : Formulas → ℕ
  depth_of_all (only f) = depth f
  depth_of_all (f ⨾ fs) = max (depth f) (depth_of_all fs)

-- numbers that strictly ascend
abbrev pub Ascend : List ℕ → Type 0
Ascend ns = Rising 0 (map ℓ ns)

-- n labels from i on
abbrev pub labels_on : ℕ → ℕ → List Label
labels_on i zero = []
labels_on i (suc n) = ℓ i ∷ labels_on (suc i) n

-- The bounds of document 01.
pub record Within (t : Table) : Type 0 where
  pub some_names : 1 ≤ length t.names
  pub most_names : length t.names ≤ most_variables
  pub names_ascend : Ascend t.names
  pub at_most_reads : length (taken_reads t.formula) ≤ most_reads
  pub reads_ascend : (s : Star) → Memᴰ s (stars t.formula) → Ascend (read_words s)
  pub reads_below : (s : Star) → Memᴰ s (stars t.formula) → (v : Variable) → Memᴰ v s.reads → v.0 < length t.names
  pub assigned_below : (c : Candidate) → Memᴰ c (candidates t.formula) → c.variable.0 < length t.names
  pub at_most_rows : size t.formula ≤ most_rows
  pub preorder : labels t.formula ≡ labels_on 0 (size t.formula)
  pub shallow : depth t.formula ≤ most_depth
  pub at_most_chosen : length t.strategy ≤ most_chosen
  pub chosen_ascend : Rising 0 t.strategy
  pub chosen_below : (l : Label) → Memᴰ l t.strategy → l.0 < size t.formula
