-- The rows of a formula that rows write: as many as it has labels, from its first row on. Each of them ends among them,
-- their positions are its labels, which so rise, and a candidate among the rows of a join stands among those of one child.
use Prim.Native.Nat.{ℕ, zero, suc, ◌+◌, ◌<◌, ◌≤◌}
use native.Mathlib.Omega.{arith}
use native.Mathlib.Nat.{eq-or-lt_of_le}
use native.Mathlib.Numerals.{add-one, add-two}
use mathlib.Core.Path.{◌≡◌, refl, sym, ap, ◌∙◌}
use mathlib.Core.Bool.{true, false, false≢true}
use mathlib.Core.Logic.{◌⊎◌, inl, inr}
use mathlib.Core.List.Memᴰ
use mathlib.Core.List.{List, [], ◌∷◌, ◌++◌, Memᴰ}
use lib.ListN.{length, length-append}
use lib.Dec.{eqb}
use borrow.Author.Tests.{eqb-true, eqb-false}
use Rattle.paper.specs.declared.Label.{Label}
use Rattle.paper.specs.Formula.{ℓ, 𝓋, same, has, Candidate, labels, labels_of, candidates, candidates_of, Rising, Star}
use Rattle.paper.specs.Formula.{Formula, Formulas, FALSE, test, candidate, conjunction, disjunction, exists, IF, only, ◌⨾◌}
use Rattle.paper.proofs.Bools.{or_cases, pick}
use Rattle.rows.specs.Rows.{kind_of, arg_of, end_of}
use Rattle.written.specs.Written.{size, labels_on}
use Rattle.rows.proofs.Meets.{lt-or-le}
use Rattle.written.proofs.Writes.{RowIs, StarIs, Writes, WritesAll}
use Rattle.written.proofs.WritesRead.{end-is-behind}

-- labels that count up from i: they rise, lie from i on, and come in two parts
labels-rise : (i n : ℕ) → Rising i (labels_on i n)
labels-rise i zero = tt
labels-rise i (suc n) = (omega arith, labels-rise (suc i) n)

pub labels-between : (i n : ℕ) (l : Label) → has (labels_on i n) l ≡ true → (i ≤ l.0) × (l.0 < i + n)
labels-between i zero l h = absurd (false≢true h)
labels-between i (suc n) l h =
    pick (or_cases (same l (ℓ i)) _ h) (λ e. let q = eqb-true l.0 i e in omega arith)
    (λ t. let (a, b) = labels-between (suc i) n l t in omega arith)

labels_append : (i m n : ℕ) → labels_on i (m + n) ≡ labels_on i m ++ labels_on (i + m) n
labels_append i zero n = let e : 0 + n ≡ n = omega arith in let d : i + 0 ≡ i = omega arith in rw (e, d)
labels_append i (suc m) n =
    let e : suc m + n ≡ suc (m + n) = omega arith in
    let d : i + suc m ≡ suc i + m = omega arith in
    rw (e, d) (ap (λ ls. ℓ i ∷ ls) (labels_append (suc i) m n))

labels-joined : (i : ℕ) (xs ys : List Label) → xs ≡ labels_on i (length xs) → ys ≡ labels_on (i + length xs) (length ys)
    → xs ++ ys ≡ labels_on i (length (xs ++ ys))
labels-joined i xs ys d e = rw (length-append xs ys, labels_append i (length xs) (length ys), ← d, ← e)

labels-behind-star : {i : ℕ} {l : Label} (s : Star) {ls : List Label} → l ≡ ℓ i → s.label ≡ ℓ (i + 1) → ls ≡ labels_on (i + 2) (length ls)
    → l ∷ s.label ∷ ls ≡ labels_on i (length (l ∷ s.label ∷ ls))
labels-behind-star {i} s d e h = cc (add-one i, add-two i)

module _ (rows reads : List ℕ) where
  -- the positions of a formula's rows are its labels
  mutual
    pub labels-count : (f : Formula) (i t : ℕ) → Writes rows reads f i t → labels f ≡ labels_on i (size f)
    labels-count (FALSE l) i t w = ap (λ x. x ∷ []) w.0
    labels-count (test s) i t w = ap (λ x. x ∷ []) w.label_is
    labels-count (candidate l v s) i t w = rw (w.0, w.2.label_is, add-one)
    labels-count (conjunction l fs) i t w = rw (w.0, ← add-one i) (ap (λ ls. ℓ i ∷ ls) (labels-count-all fs (i + 1) t w.2))
    labels-count (disjunction l fs) i t w = rw (w.0, ← add-one i) (ap (λ ls. ℓ i ∷ ls) (labels-count-all fs (i + 1) t w.2))
    labels-count (exists l s f) i t w =
        labels-behind-star s w.0 w.2.label_is (labels-count f (i + 2) (t + length s.reads) w.3)
    labels-count (IF l s f g) i t w =
        labels-behind-star s w.0 w.2.label_is
        (labels-joined (i + 2) (labels f) (labels g) (labels-count f (i + 2) _ w.3) (labels-count g (i + 2 + size f) _ w.4))

    pub labels-count-all : (fs : Formulas) (i t : ℕ) → WritesAll rows reads fs i t → labels_of fs ≡ labels_on i (length (labels_of fs))
    labels-count-all (only f) i t w = labels-count f i t w
    labels-count-all (f ⨾ fs) i t w = labels-joined i (labels f) (labels_of fs) (labels-count f i t w.0) (labels-count-all fs (i + size f) _ w.1)

  pub rises : (f : Formula) (i t : ℕ) → Writes rows reads f i t → Rising i (labels f)
  rises f i t w = rw (labels-count f i t w) (labels-rise i (size f))

  -- each row of a formula ends among its rows
  ends-first : (f : Formula) (i t a : ℕ) → Writes rows reads f i t → i ≡ a → end_of rows a ≤ i + size f
  ends-first f i t a w e = rw (← e) (let z = end-is-behind rows reads f i t w in omega arith)

  -- behind the first row, or behind a first row that has a star
  module _ (f : Formula) (i t a : ℕ) (w : Writes rows reads f i t) (from : i ≤ a) where
    ends-behind-row : (i + 1 ≤ a → end_of rows a ≤ i + size f) → end_of rows a ≤ i + size f
    ends-behind-row behind = pick (eq-or-lt_of_le from) (ends-first f i t a w) (λ h. behind (omega arith))

    ends-behind-star : (s : Star) → StarIs rows reads s (i + 1) t → 2 ≤ size f → (i + 2 ≤ a → end_of rows a ≤ i + size f) → end_of rows a ≤ i + size f
    ends-behind-star s own room behind = ends-behind-row (λ h. pick (eq-or-lt_of_le h) at-star (λ b. behind (omega arith)))
      where
        at-star : i + 1 ≡ a → end_of rows a ≤ i + size f
        at-star e = rw (← e) (let z = own.row_is.end_is in omega arith)

  -- in the first of two parts, or in the second
  ends-either : (i a : ℕ) (f : Formula) (ls : List Label) → (a < i + size f → end_of rows a ≤ i + size f)
      → (i + size f ≤ a → end_of rows a ≤ i + size f + length ls) → end_of rows a ≤ i + length (labels f ++ ls)
  ends-either i a f ls first rest =
      let n = length-append (labels f) ls in
      pick (lt-or-le a (i + size f)) (λ h. let z = first h in omega arith) (λ h. let z = rest h in omega arith)

  mutual
    pub ends-inside : (f : Formula) (i t a : ℕ) → Writes rows reads f i t → i ≤ a → a < i + size f → end_of rows a ≤ i + size f
    ends-inside (FALSE l) i t a w h b = ends-behind-row (FALSE l) i t a w h (λ c. absurd (omega arith))
    ends-inside (test s) i t a w h b = ends-behind-row (test s) i t a w h (λ c. absurd (omega arith))
    ends-inside (candidate l v s) i t a w h b = ends-behind-star (candidate l v s) i t a w h s w.2 (omega arith) (λ c. absurd (omega arith))
    ends-inside (conjunction l fs) i t a w h b =
        ends-behind-row (conjunction l fs) i t a w h (λ c. let z = ends-inside-all fs (i + 1) t a w.2 c (omega arith) in omega arith)
    ends-inside (disjunction l fs) i t a w h b =
        ends-behind-row (disjunction l fs) i t a w h (λ c. let z = ends-inside-all fs (i + 1) t a w.2 c (omega arith) in omega arith)
    ends-inside (exists l s f) i t a w h b =
        ends-behind-star (exists l s f) i t a w h s w.2 (omega arith)
        (λ c. let z = ends-inside f (i + 2) _ a w.3 c (omega arith) in omega arith)
    ends-inside (IF l s f g) i t a w h b =
        let n = length-append (labels f) (labels g) in
        ends-behind-star (IF l s f g) i t a w h s w.2 (omega arith)
        (λ c. let z = ends-either (i + 2) a f (labels g) (λ d. ends-inside f (i + 2) _ a w.3 c d)
        (λ d. ends-inside g (i + 2 + size f) _ a w.4 d (omega arith)) in omega arith)

    ends-inside-all : (fs : Formulas) (i t a : ℕ) → WritesAll rows reads fs i t → i ≤ a → a < i + length (labels_of fs)
        → end_of rows a ≤ i + length (labels_of fs)
    ends-inside-all (only f) i t a w h b = ends-inside f i t a w h b
    ends-inside-all (f ⨾ fs) i t a w h b =
        let n = length-append (labels f) (labels_of fs) in
        ends-either i a f (labels_of fs) (λ c. ends-inside f i t a w.0 h c) (λ c. ends-inside-all fs (i + size f) _ a w.1 c (omega arith))

-- row x is a candidate, one of n rows from i on
pub record Among (rows : List ℕ) (x i n : ℕ) : Type 0 where
  pub from : i ≤ x
  pub below : x < i + n
  pub kind : kind_of rows x ≡ 2

module _ {rows reads : List ℕ} where
  -- a candidate is not in a row of another kind, nor in a star behind it
  pub past_row : {x i n kind arg end t : ℕ} → RowIs rows reads i kind arg end t → eqb kind 2 ≡ false → Among rows x i (suc n) → Among rows x (i + 1) n
  past_row {i = i} {kind = kind} w other c = record {
    from = pick (eq-or-lt_of_le c.from) (λ e. absurd (eqb-false kind 2 other (sym w.kind_is ∙ ap (kind_of rows) e ∙ c.kind))) (λ h. omega arith);
    below = omega (arith, c.below);
    kind = c.kind;
  }

  pub past-star : {x i n kind arg end t : ℕ} {s : Star} → RowIs rows reads i kind arg end t → StarIs rows reads s (i + 1) t → eqb kind 2 ≡ false
      → Among rows x i (suc (suc n)) → Among rows x (i + 2) n
  past-star w own other c =
      let d = past_row own.row_is refl (past_row w other c) in record { from = omega (arith, d.from); below = omega (arith, d.below); kind = c.kind }

  pub no-candidate : {x i kind arg end t : ℕ} → RowIs rows reads i kind arg end t → eqb kind 2 ≡ false → Among rows x i 1 → ⊥
  no-candidate w other c = let d = past_row w other c in omega (arith, d.from, d.below)

  -- the candidate of a row and its star is the row
  pub own_row : {x i t : ℕ} {s : Star} → StarIs rows reads s (i + 1) t → Among rows x i 2 → x ≡ i
  own_row {x} {i} own c = pick (eq-or-lt_of_le c.from) sym (λ h. absurd (no-candidate own.row_is refl (later h)))
    where
      later : i < x → Among rows x (i + 1) 1
      later h = record { from = omega arith; below = omega (arith, c.below); kind = c.kind }

-- it is in the first of two parts, or in the second
pub either-part : {rows : List ℕ} {x i : ℕ} (xs ys : List Label) → Among rows x i (length (xs ++ ys))
    → Among rows x i (length xs) ⊎ Among rows x (i + length xs) (length ys)
either-part {rows} {x} {i} xs ys c = go (lt-or-le x (i + length xs))
  where
    go : (x < i + length xs) ⊎ (i + length xs ≤ x) → Among rows x i (length xs) ⊎ Among rows x (i + length xs) (length ys)
    go (inl h) = inl (record { from = c.from; below = h; kind = c.kind })
    go (inr h) = inr (record { from = h; below = omega (arith, c.below, length-append xs ys); kind = c.kind })

-- the candidate in a row, with the variable that the row has, is one of the formula's candidates
abbrev pub candidate_at : List ℕ → ℕ → Candidate
candidate_at rows x = record { label = ℓ x; variable = 𝓋 (arg_of rows x) }

module _ (rows reads : List ℕ) (x : ℕ) where
  abbrev Listed : List Candidate → Type 0
  Listed = Memᴰ (candidate_at rows x)

  either_listed : {i : ℕ} (xs ys : List Label) (cs ds : List Candidate) → Among rows x i (length (xs ++ ys)) → (Among rows x i (length xs) → Listed cs)
      → (Among rows x (i + length xs) (length ys) → Listed ds) → Listed (cs ++ ds)
  either_listed xs ys cs ds c first rest = pick (either-part xs ys c) (λ d. Memᴰ.append_left ds (first d)) (λ d. Memᴰ.append_right cs (rest d))

  mutual
    pub candidate-listed : (f : Formula) (i t : ℕ) → Writes rows reads f i t → Among rows x i (size f) → Listed (candidates f)
    candidate-listed (FALSE l) i t w c = absurd (no-candidate w.1 refl c)
    candidate-listed (test s) i t w c = absurd (no-candidate w.row_is refl c)
    candidate-listed (candidate l v s) i t w c =
        let e : candidate_at rows x ≡ record { label = l; variable = v } = rw (own_row w.2 c, w.1.arg_is, w.0) in Memᴰ.head e
    candidate-listed (conjunction l fs) i t w c = candidates-listed fs (i + 1) t w.2 (past_row w.1 refl c)
    candidate-listed (disjunction l fs) i t w c = candidates-listed fs (i + 1) t w.2 (past_row w.1 refl c)
    candidate-listed (exists l s f) i t w c = candidate-listed f (i + 2) _ w.3 (past-star w.1 w.2 refl c)
    candidate-listed (IF l s f g) i t w c =
        either_listed (labels f) (labels g) (candidates f) (candidates g) (past-star w.1 w.2 refl c)
        (λ d. candidate-listed f (i + 2) _ w.3 d) (λ d. candidate-listed g (i + 2 + size f) _ w.4 d)

    candidates-listed : (fs : Formulas) (i t : ℕ) → WritesAll rows reads fs i t → Among rows x i (length (labels_of fs)) → Listed (candidates_of fs)
    candidates-listed (only f) i t w c = candidate-listed f i t w c
    candidates-listed (f ⨾ fs) i t w c =
        either_listed (labels f) (labels_of fs) (candidates f) (candidates_of fs) c
        (λ d. candidate-listed f i t w.0 d) (λ d. candidates-listed fs (i + size f) _ w.1 d)
