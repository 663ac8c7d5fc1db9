-- Rows that write a formula keep their rules. The rows are gone through in order: where those before a formula keep their
-- rules, so do those before its end, and the reads taken grow by the formula's.
use Prim.Native.Nat.{ℕ, suc, ◌+◌, ◌<◌, ◌≤◌}
use native.Mathlib.Omega.{arith}
use native.Mathlib.Nat.{eq-or-lt_of_le}
use mathlib.Core.Path.{◌≡◌, refl, sym, ap, ◌∙◌}
use mathlib.Core.Bool.{Bool, true, false, cond}
use mathlib.Core.List.Memᴰ
use mathlib.Core.List.{List, [], ◌∷◌, ◌++◌, Memᴰ}
use lib.ListN.{length, drop, length-append, length-map}
use lib.Dec.{ltb, leb, eqb}
use borrow.Author.Tests.{lt-ltb, le-leb, eq-eqb, eqb-true}
use Rattle.paper.specs.Formula.{Star, Candidate, Formula, Formulas, FALSE, test, candidate, conjunction, disjunction, exists}
use Rattle.paper.specs.Formula.{IF, only, ◌⨾◌, labels, labels_of, stars, stars_of, candidates, candidates_of}
use Rattle.paper.proofs.Bools.{both, pick}
use Rattle.rows.specs.Rows.{kind_of, arg_of, end_of, from_of, form_of, meets, takes, taken_before, guarded}
use Rattle.rows.specs.Rows.{false_rule, star_rule, candidate_rule, join_rule, bound_rule, keeps_form, ends_within, keeps_rules}
use Rattle.entries.specs.Entries.{ascend}
use Rattle.written.specs.Written.{read_words, reads_from, taken_reads, size, width, Ascend}
use Rattle.written.proofs.Stands.{stands-room}
use Rattle.written.proofs.Words.{none-falls}
use Rattle.written.proofs.Writes.{RowIs, StarIs, Writes, WritesAll}
use Rattle.rows.proofs.Meets.{of-child, of-no-child}
use Rattle.rows.proofs.Taken.{taken_next}
use Rattle.written.proofs.StarReads.{taken-star, taken-append}
use Rattle.written.proofs.WritesWords.{star-stands}
use Rattle.written.proofs.WritesRead.{some-children, end-is-behind}

pub some_rows : (f : Formula) → 0 < size f
some_rows (FALSE l) = omega arith
some_rows (test s) = omega arith
some_rows (candidate l v s) = omega arith
some_rows (conjunction l fs) = omega arith
some_rows (disjunction l fs) = omega arith
some_rows (exists l s f) = omega arith
some_rows (IF l s f g) = omega arith

module _ (rows reads : List ℕ) where
  -- the children meet the end of the last
  children-meet : (fs : Formulas) (i t stop : ℕ) → WritesAll rows reads fs i t → i + length (labels_of fs) ≡ stop → meets rows stop i (width fs) ≡ true
  children-meet (only f) i t stop w e =
      let z = some_rows f in
      of-child rows stop i 0 (end-is-behind rows reads f i t w) (omega arith) (omega arith) (of-no-child rows stop (i + size f) e)
  children-meet (f ⨾ fs) i t stop w e =
      let z = some_rows f in
      let a = length-append (labels f) (labels_of fs) in
      of-child rows stop i (width fs) (end-is-behind rows reads f i t w.0) (omega arith) (omega arith)
      (children-meet fs (i + size f) (t + length (taken_reads f)) stop w.1 (omega arith))

  -- a star first, and so many more children
  star-guards : (s : Star) (i t end m : ℕ) → StarIs rows reads s (i + 1) t → end_of rows i ≡ end → i + 2 ≤ end → meets rows end (i + 2) m ≡ true
      → guarded rows i (suc m) ≡ true
  star-guards s i t end m w e b r =
      both (eqb (kind_of rows (i + 1)) 1) _ (eq-eqb _ _ w.row_is.kind_is)
      (rw e (of-child rows end (i + 1) m {end = i + 2} (let z = w.row_is.end_is in omega arith) (omega arith) b r))

  star-keeps : (s : Star) (i t : ℕ) → StarIs rows reads s i t → Ascend (read_words s) → star_rule rows reads i ≡ true
  unfolding star_rule ascend
  star-keeps s i t w a =
      let h = star-stands rows reads s i t w in
      let n = length (read_words s) in
      both (eqb (end_of rows i) (i + 1)) _ (eq-eqb _ _ w.row_is.end_is)
      (rw (w.row_is.from_is, w.row_is.arg_is, ← length-map s.reads (λ v. v.0))
      (both (leb n (length (drop t reads))) _ (le-leb _ _ (stands-room (read_words s) h)) (eq-eqb _ _ (none-falls h a))))

  false-keeps : {i t : ℕ} → RowIs rows reads i 0 0 (i + 1) t → false_rule rows i ≡ true
  unfolding false_rule
  false-keeps {i} w = both (eqb (arg_of rows i) 0) _ (eq-eqb _ _ w.arg_is) (eq-eqb _ _ w.end_is)

  candidate-keeps : {#V v i t : ℕ} {s : Star} → RowIs rows reads i 2 v (i + 2) t → StarIs rows reads s (i + 1) t → v < #V → candidate_rule rows #V i ≡ true
  unfolding candidate_rule
  candidate-keeps {#V} {v} {i} {t} {s} w a b =
      both (ltb (arg_of rows i) #V) _ (rw w.arg_is (lt-ltb v #V b))
      (star-guards s i t (i + 2) 0 a w.end_is (omega arith) (of-no-child rows (i + 2) (i + 2) refl))

  join-keeps : {kind i t : ℕ} (fs : Formulas) → RowIs rows reads i kind (width fs) (i + 1 + length (labels_of fs)) t
      → WritesAll rows reads fs (i + 1) t → join_rule rows i ≡ true
  unfolding join_rule
  join-keeps {i = i} {t = t} fs w a =
      rw (w.arg_is, w.end_is)
      (both (ltb 0 (width fs)) _ (lt-ltb 0 (width fs) (some-children fs)) (children-meet fs (i + 1) t (i + 1 + length (labels_of fs)) a refl))

  bound-keeps : {kind i t end : ℕ} {s : Star} (fs : Formulas) (u : ℕ) → RowIs rows reads i kind 0 end t → StarIs rows reads s (i + 1) t
      → WritesAll rows reads fs (i + 2) u → i + 2 + length (labels_of fs) ≡ end → bound_rule rows i (suc (width fs)) ≡ true
  unfolding bound_rule
  bound-keeps {i = i} {t = t} {end = end} {s = s} fs u w a r e =
      both (eqb (arg_of rows i) 0) _ (eq-eqb _ _ w.arg_is)
      (star-guards s i t end (width fs) a w.end_is (omega arith) (children-meet fs (i + 2) u end r e))

module _ (rows reads : List ℕ) (#V #N : ℕ) where
  -- row i ends within #N, and row 0 at #N
  record Fits (i : ℕ) : Type 0 where
    within : end_of rows i ≤ #N
    whole : i ≡ 0 → end_of rows i ≡ #N

  inner : {i : ℕ} → 0 < i → end_of rows i ≤ #N → Fits i
  inner h b = record { within = b; whole = λ e. absurd (omega arith) }

  inner-formula : (f : Formula) (i t : ℕ) → Writes rows reads f i t → 0 < i → i + size f ≤ #N → Fits i
  inner-formula f i t w h b = inner h (let e = end-is-behind rows reads f i t w in omega arith)

  ends-within : (i : ℕ) → Fits i → ends_within #N i (end_of rows i) ≡ true
  unfolding ends_within
  ends-within i h = go (eqb i 0) refl
    where
      go : (t : Bool) → eqb i 0 ≡ t → cond t (eqb (end_of rows i) #N) (leb (end_of rows i) #N) ≡ true
      go true e = eq-eqb _ _ (h.whole (eqb-true i 0 e))
      go false e = le-leb _ _ h.within

  -- what is asked of candidates and stars
  record Proper (cs : List Candidate) (ss : List Star) : Type 0 where
    assigned : (c : Candidate) → Memᴰ c cs → c.variable.0 < #V
    ascending : (s : Star) → Memᴰ s ss → Ascend (read_words s)

  module _ (cs ds : List Candidate) (ss rs : List Star) (p : Proper (cs ++ ds) (ss ++ rs)) where
    front-proper : Proper cs ss
    front-proper = record { assigned = λ c m. p.assigned c (Memᴰ.append_left ds m); ascending = λ s m. p.ascending s (Memᴰ.append_left rs m) }

    back-proper : Proper ds rs
    back-proper = record { assigned = λ c m. p.assigned c (Memᴰ.append_right cs m); ascending = λ s m. p.ascending s (Memᴰ.append_right ss m) }

  -- the rows before i keep their rules, and take t reads
  record KeptBefore (i t : ℕ) : Type 0 where
    taken : taken_before rows i ≡ t
    kept : (k : ℕ) → k < i → keeps_rules rows reads #V #N k ≡ true

  moved : {i j t u : ℕ} → i ≡ j → t ≡ u → KeptBefore i t → KeptBefore j u
  moved e d h = rw (← e, ← d) h

  row_kept : {i kind arg end t : ℕ} → RowIs rows reads i kind arg end t → Fits i → keeps_form rows reads #V i (form_of kind) ≡ true
      → KeptBefore i t → KeptBefore (i + 1) (t + takes (form_of kind) arg)
  unfolding keeps_rules
  row_kept {i} {kind} {arg} w b k h =
      record {
        taken = taken_next rows i (ap form_of w.kind_is) w.arg_is ∙ rw h.taken;
        kept = λ j l. pick (eq-or-lt_of_le (let z : j ≤ i = omega arith in z)) (λ q. rw q here) (λ q. h.kept j q);
      }
    where
      here : keeps_rules rows reads #V #N i ≡ true
      here =
          both (ends_within #N i (end_of rows i)) _ (ends-within i b)
          (both (eqb (from_of rows i) (taken_before rows i)) _ (eq-eqb _ _ (w.from_is ∙ sym h.taken)) (rw w.kind_is k))

  -- a row that takes no reads
  plain-kept : {i kind arg end t : ℕ} → RowIs rows reads i kind arg end t → Fits i → keeps_form rows reads #V i (form_of kind) ≡ true
      → takes (form_of kind) arg ≡ 0 → KeptBefore i t → KeptBefore (i + 1) t
  plain-kept w b k e h = moved refl (omega arith) (row_kept w b k h)

  star-kept : (s : Star) (i t : ℕ) → StarIs rows reads s i t → Fits i → Ascend (read_words s) → KeptBefore i t → KeptBefore (i + 1) (t + length s.reads)
  unfolding form_of
  star-kept s i t w b a h = row_kept w.row_is b (star-keeps rows reads s i t w a) h

  -- a row and the star that is its first child
  guarded-kept : {i kind arg end t : ℕ} (s : Star) → RowIs rows reads i kind arg end t → StarIs rows reads s (i + 1) t → i + 2 ≤ end → Fits i
      → Ascend (read_words s) → keeps_form rows reads #V i (form_of kind) ≡ true → takes (form_of kind) arg ≡ 0
      → KeptBefore i t → KeptBefore (i + 2) (t + length s.reads)
  guarded-kept {i} {t = t} s w g z b a k e h =
      moved (omega arith) refl (star-kept s (i + 1) t g (inner (omega arith) (omega arith)) a (plain-kept w b k e h))

  mutual
    unfolding form_of

    formula-kept : (f : Formula) (i t : ℕ) → Writes rows reads f i t → Fits i → Proper (candidates f) (stars f) → KeptBefore i t
        → KeptBefore (i + size f) (t + length (taken_reads f))
    formula-kept (FALSE l) i t w b p h = row_kept w.1 b (false-keeps rows reads w.1) h
    formula-kept (test s) i t w b p h =
        moved refl (omega (arith, taken-star s [])) (star-kept s i t w b (p.ascending s (Memᴰ.head refl)) h)
    formula-kept (candidate l v s) i t w b p h =
        let k = candidate-keeps rows reads w.1 w.2 (p.assigned _ (Memᴰ.head refl)) in
        let h₁ = guarded-kept s w.1 w.2 (omega arith) b (p.ascending s (Memᴰ.head refl)) k refl h in
        moved refl (omega (arith, taken-star s [])) h₁
    formula-kept (conjunction l fs) i t w b p h =
        let h₁ = plain-kept w.1 b (join-keeps rows reads fs w.1 w.2) refl h in
        moved (omega arith) refl (formulas-kept fs (i + 1) t w.2 (omega arith) (omega arith) p h₁)
    formula-kept (disjunction l fs) i t w b p h =
        let h₁ = plain-kept w.1 b (join-keeps rows reads fs w.1 w.2) refl h in
        moved (omega arith) refl (formulas-kept fs (i + 1) t w.2 (omega arith) (omega arith) p h₁)
    formula-kept (exists l s f) i t w b p h =
        let u = t + length s.reads in
        let k = bound-keeps rows reads (only f) u w.1 w.2 w.3 refl in
        let h₁ = guarded-kept s w.1 w.2 (omega arith) b (p.ascending s (Memᴰ.head refl)) k refl h in
        let b₁ = inner-formula f (i + 2) u w.3 (omega arith) (omega arith) in
        let h₂ = formula-kept f (i + 2) u w.3 b₁ (back-proper [] (candidates f) (s ∷ []) (stars f) p) h₁ in
        moved (omega arith) (omega (arith, taken-star s (stars f))) h₂
    formula-kept (IF l s f g) i t w b p h =
        let u = t + length s.reads in
        let j = i + 2 + size f in
        let v = u + length (taken_reads f) in
        let n = length-append (labels f) (labels g) in
        let k = bound-keeps rows reads (f ⨾ only g) u w.1 w.2 (w.3, w.4) (omega arith) in
        let h₁ = guarded-kept s w.1 w.2 (omega arith) b (p.ascending s (Memᴰ.head refl)) k refl h in
        let q = back-proper [] (candidates f ++ candidates g) (s ∷ []) (stars f ++ stars g) p in
        let b₁ = inner-formula f (i + 2) u w.3 (omega arith) (omega arith) in
        let h₂ = formula-kept f (i + 2) u w.3 b₁ (front-proper (candidates f) (candidates g) (stars f) (stars g) q) h₁ in
        let b₂ = inner-formula g j v w.4 (omega arith) (omega arith) in
        let h₃ = formula-kept g j v w.4 b₂ (back-proper (candidates f) (candidates g) (stars f) (stars g) q) h₂ in
        moved (omega arith) (omega (arith, taken-star s (stars f ++ stars g), taken-append (stars f) (stars g))) h₃

    formulas-kept : (fs : Formulas) (i t : ℕ) → WritesAll rows reads fs i t → 0 < i → i + length (labels_of fs) ≤ #N → Proper (candidates_of fs) (stars_of fs)
        → KeptBefore i t → KeptBefore (i + length (labels_of fs)) (t + length (reads_from (stars_of fs)))
    formulas-kept (only f) i t w z b p h = formula-kept f i t w (inner-formula f i t w z b) p h
    formulas-kept (f ⨾ fs) i t w z b p h =
        let j = i + size f in
        let u = t + length (taken_reads f) in
        let n = length-append (labels f) (labels_of fs) in
        let b₁ = inner-formula f i t w.0 z (omega arith) in
        let h₁ = formula-kept f i t w.0 b₁ (front-proper (candidates f) (candidates_of fs) (stars f) (stars_of fs) p) h in
        let q = back-proper (candidates f) (candidates_of fs) (stars f) (stars_of fs) p in
        let h₂ = formulas-kept fs j u w.1 (omega arith) (omega arith) q h₁ in
        moved (omega arith) (omega (arith, taken-append (stars f) (stars_of fs))) h₂

-- the rows of a whole table
module _ (rows reads : List ℕ) (#V #N : ℕ) (f : Formula) (writes : Writes rows reads f 0 0) (all : size f ≡ #N)
    (assigned : (c : Candidate) → Memᴰ c (candidates f) → c.variable.0 < #V)
    (ascending : (s : Star) → Memᴰ s (stars f) → Ascend (read_words s)) where
  all-kept : KeptBefore rows reads #V #N (0 + size f) (0 + length (taken_reads f))
  unfolding taken_before
  all-kept =
      let e = end-is-behind rows reads f 0 0 writes in
      let whole : Fits rows reads #V #N 0 = record { within = omega arith; whole = λ z. omega arith } in
      let proper : Proper rows reads #V #N (candidates f) (stars f) = record { assigned = assigned; ascending = ascending } in
      formula-kept rows reads #V #N f 0 0 writes whole proper (record { taken = refl; kept = λ k h. absurd (omega arith) })

  pub keep-rules : (i : ℕ) → i < #N → keeps_rules rows reads #V #N i ≡ true
  keep-rules i h = all-kept.kept i (omega arith)

  pub take-reads : taken_before rows #N ≡ length (taken_reads f)
  take-reads = let z : 0 + size f ≡ #N = omega arith in rw (← z) (omega (arith, all-kept.taken))
