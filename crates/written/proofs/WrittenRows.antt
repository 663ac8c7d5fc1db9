-- The rows that the writer writes write the formula: where a formula's rows, reads and labels stand together, so do those of
-- each sub-formula.
use Prim.Native.Nat.{ℕ, zero, suc, ◌+◌, ◌-◌, ◌*◌}
use native.Mathlib.Omega.{arith}
use mathlib.Core.Path.{◌≡◌, refl, sym, ap}
use mathlib.Core.List.{List, [], ◌∷◌, ◌++◌}
use lib.ListN.{length, take, drop, length-append, length-map}
use lib.Seq.{take-length}
use Rattle.paper.specs.declared.Label.{Label}
use Rattle.paper.specs.Formula.{ℓ, 𝓋, Star, Formula, Formulas, FALSE, test, candidate, conjunction}
use Rattle.paper.specs.Formula.{disjunction, exists, IF, only, ◌⨾◌, labels, labels_of, stars, stars_of}
use Rattle.written.specs.Written.{read_words, reads_from, taken_reads, size, row_words, star_words, rows_from, rows_from_all, labels_on}
use Rattle.written.proofs.Stands.{Stands, stands-front, stands-back, entry_at}
use Rattle.written.proofs.Words.{map_back}
use Rattle.written.proofs.StarReads.{reads-append}
use Rattle.written.proofs.Writes.{RowIs, StarIs, Writes, WritesAll}

-- four words a row
mutual
  pub length-rows : (f : Formula) (i t : ℕ) → length (rows_from f i t) ≡ 4 * size f
  length-rows (FALSE l) i t = omega arith
  length-rows (test s) i t = omega arith
  length-rows (candidate l v s) i t = omega arith
  length-rows (conjunction l fs) i t = let h = length-rows-all fs (i + 1) t in omega arith
  length-rows (disjunction l fs) i t = let h = length-rows-all fs (i + 1) t in omega arith
  length-rows (exists l s f) i t = let h = length-rows f (i + 2) (t + length s.reads) in omega arith
  length-rows (IF l s f g) i t =
      let a = length-rows f (i + 2) (t + length s.reads) in
      let b = length-rows g (i + 2 + size f) (t + length s.reads + length (taken_reads f)) in
      simp length-append (omega arith)

  length-rows-all : (fs : Formulas) (i t : ℕ) → length (rows_from_all fs i t) ≡ 4 * length (labels_of fs)
  length-rows-all (only f) i t = length-rows f i t
  length-rows-all (f ⨾ fs) i t =
      let a = length-rows f i t in
      let b = length-rows-all fs (i + size f) (t + length (taken_reads f)) in
      simp length-append (omega arith)

-- label i of the labels that count up from 0
labels_from : (j i n : ℕ) → drop j (labels_on i n) ≡ labels_on (i + j) (n - j)
labels_from zero i n = let e : i + 0 ≡ i = omega arith in let h : n - 0 ≡ n = omega arith in rw (e, h)
labels_from (suc j) i zero = let h : 0 - suc j ≡ 0 = omega arith in rw h
labels_from (suc j) i (suc n) =
    let e : i + suc j ≡ suc i + j = omega arith in let h : suc n - suc j ≡ n - j = omega arith in rw (e, h) (labels_from j (suc i) n)

label_at : {l : Label} {ls : List Label} (i n : ℕ) → Stands (labels_on 0 n) i (l ∷ ls) → l ≡ ℓ i
label_at {l} {ls} i n h = go (n - i) (rw (labels_from i 0 n) at h.is)
  where
    go : (m : ℕ) → take (suc (length ls)) (labels_on (0 + i) m) ≡ l ∷ ls → l ≡ ℓ i
    go zero e = cc
    go (suc m) e = let z : 0 + i ≡ i = omega arith in cc

module _ (rows reads : List ℕ) (n : ℕ) where
  -- from row i on, with t reads taken before it, stand these words, these reads and these labels
  record Here (i t : ℕ) (ws rs : List ℕ) (ls : List Label) : Type 0 where
    words : Stands rows (4 * i) ws
    taken : Stands reads t rs
    named : Stands (labels_on 0 n) i ls

  row_here : (i kind arg end from : ℕ) → Stands rows (4 * i) (row_words kind arg end from) → RowIs rows reads i kind arg end from
  row_here i kind arg end from h =
      let ws = row_words kind arg end from in
      record {
        kind_is = entry_at ws 0 0 (omega arith) (omega arith) h;
        arg_is = entry_at ws 1 0 refl (omega arith) h;
        end_is = entry_at ws 2 0 refl (omega arith) h;
        from_is = entry_at ws 3 0 refl (omega arith) h;
      }

  -- the first row, and what follows it
  module _ {i t kind arg end : ℕ} {l : Label} {ws rs : List ℕ} {ls : List Label} (h : Here i t (row_words kind arg end t ++ ws) rs (l ∷ ls)) where
    first-row : (l ≡ ℓ i) × RowIs rows reads i kind arg end t
    first-row = (label_at i n h.named, row_here i kind arg end t (stands-front (row_words kind arg end t) ws h.words))

    then-rows : Here (i + 1) t ws rs ls
    then-rows = record {
      words = stands-back (row_words kind arg end t) ws (omega arith) h.words;
      taken = h.taken;
      named = stands-back (l ∷ []) ls refl h.named;
    }

  -- the first star, and what follows it
  module _ {i t : ℕ} (s : Star) (rs : List ℕ) {ws : List ℕ} {ls : List Label} (h : Here i t (star_words s i t ++ ws) (read_words s ++ rs) (s.label ∷ ls)) where
    first-star : StarIs rows reads s i t
    first-star =
        record {
          label_is = label_at i n h.named;
          row_is = row_here i 1 (length s.reads) (i + 1) t (stands-front (star_words s i t) ws h.words);
          reads_are =
              rw (← length-map s.reads (λ v. v.0), (stands-front (read_words s) rs h.taken).is)
              (sym (map_back (λ v. v.0) 𝓋 (λ v. refl) s.reads));
        }

    after-star : {j : ℕ} → i + 1 ≡ j → Here j (t + length s.reads) ws rs ls
    after-star e =
        record {
          words = stands-back (star_words s i t) ws (omega arith) h.words;
          taken = stands-back (read_words s) rs (ap (λ k. t + k) (length-map s.reads (λ v. v.0))) h.taken;
          named = stands-back (s.label ∷ []) ls e h.named;
        }

  -- the first formula, and what follows it
  module _ {i t : ℕ} (f : Formula) (ws rs : List ℕ) (ls : List Label) (h : Here i t (rows_from f i t ++ ws) (taken_reads f ++ rs) (labels f ++ ls)) where
    first-formula : Here i t (rows_from f i t) (taken_reads f) (labels f)
    first-formula =
        record {
          words = stands-front (rows_from f i t) ws h.words;
          taken = stands-front (taken_reads f) rs h.taken;
          named = stands-front (labels f) ls h.named;
        }

    after-formula : Here (i + size f) (t + length (taken_reads f)) ws rs ls
    after-formula =
        record {
          words = stands-back (rows_from f i t) ws (let e = length-rows f i t in omega arith) h.words;
          taken = stands-back (taken_reads f) rs refl h.taken;
          named = stands-back (labels f) ls refl h.named;
        }

  mutual
    rows_write : (f : Formula) (i t : ℕ) → Here i t (rows_from f i t) (taken_reads f) (labels f) → Writes rows reads f i t
    rows_write (FALSE l) i t h = first-row h
    rows_write (test s) i t h = first-star s [] h
    rows_write (candidate l v s) i t h = let (a, b) = first-row h in (a, b, first-star s [] (then-rows h))
    rows_write (conjunction l fs) i t h = let (a, b) = first-row h in (a, b, rows-write-all fs (i + 1) t (then-rows h))
    rows_write (disjunction l fs) i t h = let (a, b) = first-row h in (a, b, rows-write-all fs (i + 1) t (then-rows h))
    rows_write (exists l s f) i t h =
        let (a, b) = first-row h in
        let c = then-rows h in
        (a, b, first-star s (taken_reads f) c, rows_write f (i + 2) (t + length s.reads) (after-star s (taken_reads f) c (omega arith)))
    rows_write (IF l s f g) i t h =
        let (a, b) = first-row h in
        let c = then-rows h in
        let rs = reads_from (stars f ++ stars g) in
        let u = t + length s.reads in
        let ws = rows_from g (i + 2 + size f) (u + length (taken_reads f)) in
        let d : Here (i + 2) u (rows_from f (i + 2) u ++ ws) (taken_reads f ++ taken_reads g) (labels f ++ labels g) =
        rw (← reads-append (stars f) (stars g)) (after-star s rs c (omega arith)) in (
          a,
          b,
          first-star s rs c,
          rows_write f (i + 2) u (first-formula f ws (taken_reads g) (labels g) d),
          rows_write g (i + 2 + size f) (u + length (taken_reads f)) (after-formula f ws (taken_reads g) (labels g) d),
        )

    rows-write-all : (fs : Formulas) (i t : ℕ) → Here i t (rows_from_all fs i t) (reads_from (stars_of fs)) (labels_of fs) → WritesAll rows reads fs i t
    rows-write-all (only f) i t h = rows_write f i t h
    rows-write-all (f ⨾ fs) i t h =
        let u = t + length (taken_reads f) in
        let ws = rows_from_all fs (i + size f) u in
        let rs = reads_from (stars_of fs) in
        let d : Here i t (rows_from f i t ++ ws) (taken_reads f ++ rs) (labels f ++ labels_of fs) = rw reads-append at h in
        (rows_write f i t (first-formula f ws rs (labels_of fs) d), rows-write-all fs (i + size f) u (after-formula f ws rs (labels_of fs) d))

-- rows, reads and labels of a formula that stand where they are written
pub written-write : (rows reads : List ℕ) (f : Formula) (i t : ℕ) → Stands rows (4 * i) (rows_from f i t) → Stands reads t (taken_reads f)
    → labels f ≡ labels_on i (size f) → Writes rows reads f i t
written-write rows reads f i t w r l =
    let n = i + size f in
    let e : 0 + i ≡ i = omega arith in
    let h : n - i ≡ size f = omega arith in
    rows_write rows reads n f i t (record { words = w; taken = r; named = record { is = rw (labels_from i 0 n, e, h, ← l) (take-length (labels f)) } })
