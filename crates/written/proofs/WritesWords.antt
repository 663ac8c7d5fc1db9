-- Rows that write a formula are the writer's words: its rows stand where they are, so do its reads, and its labels count up.
use Prim.Native.Nat.{ℕ, zero, suc, ◌+◌, ◌*◌, ◌<◌, ◌≤◌}
use native.Mathlib.Omega.{arith}
use native.Mathlib.Numerals.{add-one, add-two, add-three}
use mathlib.Core.Path.{◌≡◌, refl, sym, ap, ap₂, subst, ◌∙◌}
use mathlib.Core.List.{List, [], ◌∷◌, ◌++◌, map}
use lib.ListN.{length, get_or, take, drop, length-append, length-map}
use lib.Seq.{drop-cons}
use Rattle.paper.specs.declared.Label.{Label}
use Rattle.paper.specs.Formula.{ℓ, 𝓋, Star, Formula, Formulas, FALSE, test, candidate, conjunction}
use Rattle.paper.specs.Formula.{disjunction, exists, IF, only, ◌⨾◌, labels, labels_of, stars, stars_of}
use Rattle.written.specs.Written.{read_words, reads_from, taken_reads, size, row_words, star_words, rows_from, rows_from_all, labels_on}
use Rattle.written.proofs.Writes.{RowIs, StarIs, Writes, WritesAll}
use Rattle.written.proofs.WrittenRows.{length-rows}
use Rattle.written.proofs.Stands.{Stands, stands-none, stands-joined}
use Rattle.written.proofs.Words.{map_back}
use Rattle.written.proofs.StarReads.{reads-append}

-- labels count up from i
abbrev pub CountUp : ℕ → List Label → Type 0
CountUp i ls = ls ≡ labels_on i (length ls)

one_more : {j : ℕ} {l : Label} (i : ℕ) (ls : List Label) → l ≡ ℓ i → i + 1 ≡ j → CountUp j ls → CountUp i (l ∷ ls)
one_more {j} {l} i ls e q c = let z : j ≡ suc i = omega arith in ap₂ (λ x y. x ∷ y) e (c ∙ ap (λ k. labels_on k (length ls)) z)

labels-on-add : (i m n : ℕ) → labels_on i (m + n) ≡ labels_on i m ++ labels_on (i + m) n
labels-on-add i zero n = let e : 0 + n ≡ n = omega arith in let h : i + 0 ≡ i = omega arith in rw (e, h)
labels-on-add i (suc m) n =
    let e : suc m + n ≡ suc (m + n) = omega arith in
    let h : i + suc m ≡ suc i + m = omega arith in
    rw (e, h) (ap (λ ls. ℓ i ∷ ls) (labels-on-add (suc i) m n))

both-count : (i : ℕ) (ls ks : List Label) → CountUp i ls → CountUp (i + length ls) ks → CountUp i (ls ++ ks)
both-count i ls ks a b = ap₂ (λ x y. x ++ y) a b ∙ sym (labels-on-add i (length ls) (length ks)) ∙ ap (labels_on i) (sym (length-append ls ks))

-- the words of a row
four-words : (ws : List ℕ) (k : ℕ) → k + 4 ≤ length ws
    → take 4 (drop k ws) ≡ get_or ws k 0 ∷ get_or ws (k + 1) 0 ∷ get_or ws (k + 2) 0 ∷ get_or ws (k + 3) 0 ∷ []
four-words ws k h =
    let a : k < length ws = omega arith in
    let b : suc k < length ws = omega arith in
    let c : suc (suc k) < length ws = omega arith in
    let d : suc (suc (suc k)) < length ws = omega arith in
    rw (add-one k, add-two k, add-three k, drop-cons ws k 0, drop-cons ws (suc k) 0, drop-cons ws (suc (suc k)) 0, drop-cons ws (suc (suc (suc k))) 0)

module _ (rows reads : List ℕ) where
  -- what follows a row; a row and a star; a formula
  after-row : {kind arg end from j : ℕ} (i : ℕ) (ws : List ℕ) → 4 * j ≤ length rows → i + 1 ≡ j → RowIs rows reads i kind arg end from
      → Stands rows (4 * j) ws → Stands rows (4 * i) (row_words kind arg end from ++ ws)
  after-row {kind} {arg} {end} {from} {j} i ws h e r next =
      stands-joined (row_words kind arg end from) ws (omega arith) (record { is = cc (four-words rows (4 * i) (omega arith)) }) next

  after-star : {kind arg end from u : ℕ} (i : ℕ) (s : Star) (ws : List ℕ) → 4 * (i + 2) ≤ length rows → RowIs rows reads i kind arg end from
      → StarIs rows reads s (i + 1) u → Stands rows (4 * (i + 2)) ws → Stands rows (4 * i) (row_words kind arg end from ++ (star_words s (i + 1) u ++ ws))
  after-star i s ws h r w next = after-row i (star_words s (i + 1) _ ++ ws) (omega arith) refl r (after-row (i + 1) ws h (omega arith) w.row_is next)

  after-formula : (f : Formula) (i t : ℕ) (ws : List ℕ) → Stands rows (4 * i) (rows_from f i t) → Stands rows (4 * (i + size f)) ws
      → Stands rows (4 * i) (rows_from f i t ++ ws)
  after-formula f i t ws here next =
      stands-joined (rows_from f i t) ws (let n = length-rows f i t in omega arith) here next

  mutual
    pub rows-stand : (f : Formula) (i t : ℕ) → 4 * (i + size f) ≤ length rows → Writes rows reads f i t → Stands rows (4 * i) (rows_from f i t)
    rows-stand (FALSE l) i t h w = after-row i [] h refl w.1 stands-none
    rows-stand (test s) i t h w = after-row i [] h refl w.row_is stands-none
    rows-stand (candidate l v s) i t h w = after-star i s [] h w.1 w.2 stands-none
    rows-stand (conjunction l fs) i t h w =
        after-row i (rows_from_all fs (i + 1) t) (omega arith) refl w.1 (all-rows-stand fs (i + 1) t (omega arith) w.2)
    rows-stand (disjunction l fs) i t h w =
        after-row i (rows_from_all fs (i + 1) t) (omega arith) refl w.1 (all-rows-stand fs (i + 1) t (omega arith) w.2)
    rows-stand (exists l s f) i t h w =
        let u = t + length s.reads in
        after-star i s (rows_from f (i + 2) u) (omega arith) w.1 w.2 (rows-stand f (i + 2) u (omega arith) w.3)
    rows-stand (IF l s f g) i t h w =
        let u = t + length s.reads in
        let z = u + length (taken_reads f) in
        let n = length-append (labels f) (labels g) in
        let a = rows-stand f (i + 2) u (omega arith) w.3 in
        let b = rows-stand g (i + 2 + size f) z (omega arith) w.4 in
        let ws = rows_from g (i + 2 + size f) z in
        after-star i s (rows_from f (i + 2) u ++ ws) (omega arith) w.1 w.2 (after-formula f (i + 2) u ws a b)

    all-rows-stand : (fs : Formulas) (i t : ℕ) → 4 * (i + length (labels_of fs)) ≤ length rows → WritesAll rows reads fs i t
        → Stands rows (4 * i) (rows_from_all fs i t)
    all-rows-stand (only f) i t h w = rows-stand f i t h w
    all-rows-stand (f ⨾ fs) i t h w =
        let u = t + length (taken_reads f) in
        let n = length-append (labels f) (labels_of fs) in
        let a = rows-stand f i t (omega arith) w.0 in
        let b = all-rows-stand fs (i + size f) u (omega arith) w.1 in
        after-formula f i t (rows_from_all fs (i + size f) u) a b

  -- a star's reads, and what follows them
  pub star-words : (s : Star) (i t : ℕ) → StarIs rows reads s i t → read_words s ≡ take (length s.reads) (drop t reads)
  star-words s i t w = ap (map (λ v. v.0)) w.reads_are ∙ map_back 𝓋 (λ v. v.0) (λ w. refl) (take (length s.reads) (drop t reads))

  pub star-stands : (s : Star) (i t : ℕ) → StarIs rows reads s i t → Stands reads t (read_words s)
  star-stands s i t w = record { is = rw (length-map s.reads (λ v. v.0)) (sym (star-words s i t w)) }

  after-reads : (s : Star) (i t : ℕ) (us : List ℕ) → StarIs rows reads s i t → Stands reads (t + length s.reads) us
      → Stands reads t (read_words s ++ us)
  after-reads s i t us w next = stands-joined (read_words s) us (ap (λ k. t + k) (length-map s.reads (λ v. v.0))) (star-stands s i t w) next

  both-reads : (t : ℕ) (ss us : List Star) → Stands reads t (reads_from ss) → Stands reads (t + length (reads_from ss)) (reads_from us)
      → Stands reads t (reads_from (ss ++ us))
  both-reads t ss us a b = subst (Stands reads t) (sym (reads-append ss us)) (stands-joined (reads_from ss) (reads_from us) refl a b)

  mutual
    pub reads-stand : (f : Formula) (i t : ℕ) → Writes rows reads f i t → Stands reads t (taken_reads f)
    reads-stand (FALSE l) i t w = stands-none
    reads-stand (test s) i t w = after-reads s i t [] w stands-none
    reads-stand (candidate l v s) i t w = after-reads s (i + 1) t [] w.2 stands-none
    reads-stand (conjunction l fs) i t w = all-reads-stand fs (i + 1) t w.2
    reads-stand (disjunction l fs) i t w = all-reads-stand fs (i + 1) t w.2
    reads-stand (exists l s f) i t w = after-reads s (i + 1) t (taken_reads f) w.2 (reads-stand f (i + 2) (t + length s.reads) w.3)
    reads-stand (IF l s f g) i t w =
        let u = t + length s.reads in
        let a = reads-stand f (i + 2) u w.3 in
        let b = reads-stand g (i + 2 + size f) (u + length (taken_reads f)) w.4 in
        after-reads s (i + 1) t (reads_from (stars f ++ stars g)) w.2 (both-reads u (stars f) (stars g) a b)

    all-reads-stand : (fs : Formulas) (i t : ℕ) → WritesAll rows reads fs i t → Stands reads t (reads_from (stars_of fs))
    all-reads-stand (only f) i t w = reads-stand f i t w
    all-reads-stand (f ⨾ fs) i t w =
        both-reads t (stars f) (stars_of fs) (reads-stand f i t w.0) (all-reads-stand fs (i + size f) (t + length (taken_reads f)) w.1)

  mutual
    pub labels-count : (f : Formula) (i t : ℕ) → Writes rows reads f i t → CountUp i (labels f)
    labels-count (FALSE l) i t w = one_more i [] w.0 refl refl
    labels-count (test s) i t w = one_more i [] w.label_is refl refl
    labels-count (candidate l v s) i t w = one_more i (s.label ∷ []) w.0 refl (one_more (i + 1) [] w.2.label_is refl refl)
    labels-count (conjunction l fs) i t w = one_more i (labels_of fs) w.0 refl (all-labels-count fs (i + 1) t w.2)
    labels-count (disjunction l fs) i t w = one_more i (labels_of fs) w.0 refl (all-labels-count fs (i + 1) t w.2)
    labels-count (exists l s f) i t w =
        let a = labels-count f (i + 2) (t + length s.reads) w.3 in
        one_more i (s.label ∷ labels f) w.0 refl (one_more (i + 1) (labels f) w.2.label_is (omega arith) a)
    labels-count (IF l s f g) i t w =
        let u = t + length s.reads in
        let a = labels-count f (i + 2) u w.3 in
        let b = labels-count g (i + 2 + size f) (u + length (taken_reads f)) w.4 in
        let c = both-count (i + 2) (labels f) (labels g) a b in
        one_more i (s.label ∷ labels f ++ labels g) w.0 refl (one_more (i + 1) (labels f ++ labels g) w.2.label_is (omega arith) c)

    all-labels-count : (fs : Formulas) (i t : ℕ) → WritesAll rows reads fs i t → CountUp i (labels_of fs)
    all-labels-count (only f) i t w = labels-count f i t w
    all-labels-count (f ⨾ fs) i t w =
        both-count i (labels f) (labels_of fs) (labels-count f i t w.0) (all-labels-count fs (i + size f) (t + length (taken_reads f)) w.1)
