-- Rows that keep their rules write the formula that is read from them: by the levels left, each form in its turn, and the
-- children of a join one after another.
use Prim.Native.Nat.{ℕ, zero, suc, ◌+◌, ◌-◌, ◌<◌, ◌≤◌}
use native.Mathlib.Omega.{arith}
use mathlib.Core.Path.{◌≡◌, refl, sym, ap, ap₂, subst, subst₂, ◌∙◌}
use mathlib.Core.Bool.{true}
use mathlib.Core.List.{List, [], ◌∷◌, map}
use lib.ListN.{length, take, drop, length-append, length-map}
use lib.Seq.{length-take-le}
use Rattle.paper.specs.Formula.{𝓋, Formula, Formulas, test, labels, labels_of, stars, stars_of}
use Rattle.rows.specs.Rows.{kind_of, arg_of, end_of, from_of}
use Rattle.rows.specs.declared.form.Form.{Form}
use Rattle.rows.specs.declared.form.Form.TheVariants as form
use Rattle.rows.specs.Rows.{form_of, meets, takes, taken_before, keeps_rules}
use Rattle.rows.specs.Formula.{star_at, children_at, node_at, formula_at}
use Rattle.written.specs.Written.{reads_from, taken_reads, size, width}
use Rattle.written.proofs.Writes.{RowIs, StarIs, Writes, WritesAll}
use Rattle.rows.proofs.Meets.{child, no-child}
use Rattle.rows.proofs.Nested.{rows-rise, past-guard}
use Rattle.rows.proofs.Taken.{taken_next}
use Rattle.written.proofs.StarReads.{taken-append, taken-star}
use Rattle.rows.proofs.Rules.{KindIs, is-FALSE, is-star, is-candidate, is-conjunction, is-disjunction, is-exists, is-IF, is_none}
use Rattle.rows.proofs.Rules.{kind_is, star-form, StarSays, JoinSays, Guards, Says, Kept, kept, root_ends}

length-read : (m : ℕ) (ws : List ℕ) → m ≤ length ws → length (map 𝓋 (take m ws)) ≡ m
length-read m ws h = length-map (take m ws) 𝓋 ∙ length-take-le m ws h

module _ (rows reads : List ℕ) where
  -- The rows from i on write f, end where f does, and take its reads.
  pub record RowsWrite (f : Formula) (i : ℕ) : Type 0 where
    pub writes : Writes rows reads f i (taken_before rows i)
    pub ends : end_of rows i ≡ i + size f
    pub taken : taken_before rows (end_of rows i) ≡ taken_before rows i + length (taken_reads f)

  -- The rows from i on up to `stop` write formulas, so many, and take their reads.
  pub record RowsWriteAll (fs : Formulas) (i stop many : ℕ) : Type 0 where
    pub writes : WritesAll rows reads fs i (taken_before rows i)
    pub ends : stop ≡ i + length (labels_of fs)
    pub taken : taken_before rows stop ≡ taken_before rows i + length (reads_from (stars_of fs))
    pub wide : width fs ≡ many

  -- children one after another
  pub children-write : (at : ℕ → Formula) (more i stop : ℕ) → ((j : ℕ) → i ≤ j → j < stop → end_of rows j ≤ stop → RowsWrite (at j) j)
      → meets rows stop i (suc more) ≡ true → RowsWriteAll (children_at rows reads at more i) i stop (suc more)
  unfolding children_at
  children-write at zero i stop each h =
      let c = child rows stop i 0 h in
      let w = each i (omega arith) c.before c.within in
      let e = no-child rows stop (end_of rows i) c.others in
      record { writes = w.writes; ends = sym e ∙ w.ends; taken = ap (taken_before rows) (sym e) ∙ w.taken; wide = refl }
  children-write at (suc more) i stop each h =
      let c = child rows stop i (suc more) h in
      let w = each i (omega arith) c.before c.within in
      let r = children-write at more (end_of rows i) stop (λ j a. each j (let z = c.rises in omega arith)) c.others in
      let fs = children_at rows reads at more (end_of rows i) in
      record {
        writes = (w.writes, subst₂ (WritesAll rows reads fs) w.ends w.taken r.writes);
        ends = simp length-append (let a = w.ends in let b = r.ends in omega arith);
        taken = let a = w.taken in let b = r.taken in let d = taken-append (stars (at i)) (stars_of fs) in omega arith;
        wide = ap suc r.wide;
      }

  -- a row whose form takes no reads
  same_taken : (i : ℕ) {F : Form} → form_of (kind_of rows i) ≡ F → takes F (arg_of rows i) ≡ 0 → taken_before rows (i + 1) ≡ taken_before rows i
  same_taken i e z = let n = taken_next rows i e refl in omega arith

  -- a star's row
  star-writes : (i : ℕ) → kind_of rows i ≡ 1 → form_of (kind_of rows i) ≡ form.Star → from_of rows i ≡ taken_before rows i → StarSays rows reads i
      → RowsWrite (test (star_at rows reads i)) i
  unfolding star_at
  star-writes i k F f s =
      let n = sym (length-read (arg_of rows i) (drop (from_of rows i) reads) s.there) in
      record {
        writes = record {
          label_is = refl;
          row_is = record { kind_is = k; arg_is = n; end_is = s.ends; from_is = f };
          reads_are = ap₂ (λ m t. map 𝓋 (take m (drop t reads))) n f;
        };
        ends = s.ends;
        taken = ap (taken_before rows) s.ends ∙ taken_next rows i F refl ∙ (let e = taken-star (star_at rows reads i) [] in omega arith);
      }

module _ (rows reads : List ℕ) (#V #N : ℕ) (keeps : (i : ℕ) → i < #N → keeps_rules rows reads #V #N i ≡ true) where
  kept_at : (i : ℕ) → i < #N → Kept rows reads #V #N i
  kept_at i h = kept rows reads #V #N i (keeps i h)

  star-row : (i : ℕ) → i < #N → kind_of rows i ≡ 1 → RowsWrite rows reads (test (star_at rows reads i)) i
  star-row i h k =
      let e = star-form (kind_of rows i) k in
      star-writes rows reads i k e (kept_at i h).from_is (subst (Says rows reads #V i) e (kept_at i h).says)

  -- a row of which the first child is a star: that star, and the children after it
  record GuardWrites (i more : ℕ) : Type 0 where
    star : StarIs rows reads (star_at rows reads (i + 1)) (i + 1) (taken_before rows i)
    taken : taken_before rows (i + 2) ≡ taken_before rows i + length (star_at rows reads (i + 1)).reads
    others : meets rows (end_of rows i) (i + 2) more ≡ true

  guard-writes : (i more : ℕ) → i < #N → taken_before rows (i + 1) ≡ taken_before rows i → Guards rows i (suc more) → GuardWrites i more
  guard-writes i more h e g =
      let c = child rows (end_of rows i) (i + 1) more g.meet in
      let w = star-row (i + 1) (let n = (kept_at i h).within in omega arith) g.star in
      let q : end_of rows (i + 1) ≡ i + 2 = let d = w.ends in omega arith in
      record {
        star = subst (StarIs rows reads (star_at rows reads (i + 1)) (i + 1)) e w.writes;
        taken = ap (taken_before rows) (sym q) ∙ w.taken ∙ (let n = taken-star (star_at rows reads (i + 1)) [] in omega arith);
        others = past-guard rows reads #V #N keeps i more h g;
      }

  -- a row of so many children
  record JoinWrites (i : ℕ) (fs : Formulas) : Type 0 where
    row : (k : ℕ) → kind_of rows i ≡ k → RowIs rows reads i k (width fs) (i + 1 + length (labels_of fs)) (taken_before rows i)
    children : WritesAll rows reads fs (i + 1) (taken_before rows i)
    ends : end_of rows i ≡ i + suc (length (labels_of fs))
    taken : taken_before rows (end_of rows i) ≡ taken_before rows i + length (reads_from (stars_of fs))

  -- a row of a star and so many children
  record BoundWrites (i : ℕ) (fs : Formulas) : Type 0 where
    star : StarIs rows reads (star_at rows reads (i + 1)) (i + 1) (taken_before rows i)
    children : WritesAll rows reads fs (i + 2) (taken_before rows i + length (star_at rows reads (i + 1)).reads)
    ends : end_of rows i ≡ i + 2 + length (labels_of fs)
    taken : taken_before rows (end_of rows i) ≡ taken_before rows i + length (reads_from (star_at rows reads (i + 1) ∷ stars_of fs))

  module _ (at : ℕ → Formula) (i : ℕ) (h : i < #N) (each : (j : ℕ) → i < j → j < #N → end_of rows j ≤ end_of rows i → RowsWrite rows reads (at j) j) where
    join-writes : taken_before rows (i + 1) ≡ taken_before rows i → JoinSays rows i → JoinWrites i (children_at rows reads at (arg_of rows i - 1) (i + 1))
    join-writes e s =
        let fs = children_at rows reads at (arg_of rows i - 1) (i + 1) in
        let n = (kept_at i h).within in
        let w = children-write rows reads at (arg_of rows i - 1) (i + 1) (end_of rows i) (λ j a b. each j (omega arith) (omega arith)) s.meet in
        record {
          row = λ k q. record { kind_is = q; arg_is = s.some ∙ sym w.wide; end_is = w.ends; from_is = (kept_at i h).from_is };
          children = subst (WritesAll rows reads fs (i + 1)) e w.writes;
          ends = let d = w.ends in omega arith;
          taken = let d = w.taken in omega arith;
        }

    bound-writes : (more : ℕ) → taken_before rows (i + 1) ≡ taken_before rows i → Guards rows i (suc (suc more))
        → BoundWrites i (children_at rows reads at more (i + 2))
    bound-writes more e s =
        let fs = children_at rows reads at more (i + 2) in
        let n = (kept_at i h).within in
        let g = guard-writes i (suc more) h e s in
        let w = children-write rows reads at more (i + 2) (end_of rows i) (λ j a b. each j (omega arith) (omega arith)) g.others in
        record {
          star = g.star;
          children = subst (WritesAll rows reads fs (i + 2)) g.taken w.writes;
          ends = w.ends;
          taken = let a = g.taken in let b = w.taken in let c = taken-star (star_at rows reads (i + 1)) (stars_of fs) in omega arith;
        }

    -- a row of a form, its children being read by `at`
    node-writes : (F : Form) → form_of (kind_of rows i) ≡ F → KindIs (kind_of rows i) F → Says rows reads #V i F
        → RowsWrite rows reads (node_at rows reads at i F) i
    unfolding node_at children_at
    node-writes form.False e (is-FALSE k) s =
        record {
          writes = (refl, record { kind_is = k; arg_is = s.0; end_is = s.1; from_is = (kept_at i h).from_is });
          ends = s.1;
          taken = ap (taken_before rows) s.1 ∙ taken_next rows i e refl;
        }
    node-writes form.Star e (is-star k) s = star-writes rows reads i k e (kept_at i h).from_is s
    node-writes form.Candidate e (is-candidate k) s =
        let g = guard-writes i 0 h (same_taken rows reads i e refl) s.1 in
        let q = sym (no-child rows (end_of rows i) (i + 2) g.others) in
        record {
          writes = (refl, record { kind_is = k; arg_is = refl; end_is = q; from_is = (kept_at i h).from_is }, g.star);
          ends = q;
          taken = ap (taken_before rows) q ∙ g.taken ∙ (let n = taken-star (star_at rows reads (i + 1)) [] in omega arith);
        }
    node-writes form.Conjunction e (is-conjunction k) s =
        let w = join-writes (same_taken rows reads i e refl) s in
        record { writes = (refl, w.row 3 k, w.children); ends = w.ends; taken = w.taken }
    node-writes form.Disjunction e (is-disjunction k) s =
        let w = join-writes (same_taken rows reads i e refl) s in
        record { writes = (refl, w.row 4 k, w.children); ends = w.ends; taken = w.taken }
    node-writes form.Exists e (is-exists k) s =
        let w = bound-writes 0 (same_taken rows reads i e refl) s.1 in
        record {
          writes = (refl, record { kind_is = k; arg_is = s.0; end_is = w.ends; from_is = (kept_at i h).from_is }, w.star, w.children);
          ends = let d = w.ends in omega arith;
          taken = w.taken;
        }
    node-writes form.If e (is-IF k) s =
        let w = bound-writes 1 (same_taken rows reads i e refl) s.1 in
        let n = length-append (labels (at (i + 2))) (labels (at (end_of rows (i + 2)))) in
        let d = w.ends in
        record {
          writes = (refl, record { kind_is = k; arg_is = s.0; end_is = omega arith; from_is = (kept_at i h).from_is }, w.star, w.children.0, w.children.1);
          ends = omega arith;
          taken = w.taken;
        }
    node-writes form.Unknown e (is_none k) s = absurd s

  -- A row that has its subtree's size for levels left writes the formula that is read from it.
  pub rules-write : (d i : ℕ) → i < #N → end_of rows i - i ≤ d → RowsWrite rows reads (formula_at rows reads d i) i
  unfolding formula_at
  rules-write zero i h l = let r = rows-rise rows reads #V #N keeps i h in absurd (omega arith)
  rules-write (suc d) i h l =
      let k = kind_of rows i in
      node-writes (formula_at rows reads d) i h (λ j a b c. rules-write d j b (omega arith)) (form_of k) refl (kind_is k) (kept_at i h).says

  -- All rows write one formula, which takes all the reads that are taken.
  pub record AllRowsWrite (f : Formula) : Type 0 where
    pub writes : Writes rows reads f 0 0
    pub many : size f ≡ #N
    pub taken : length (taken_reads f) ≡ taken_before rows #N

  pub rules-write-whole : (d : ℕ) → 0 < #N → #N ≤ d → AllRowsWrite (formula_at rows reads d 0)
  unfolding taken_before
  rules-write-whole d h l =
      let e = root_ends rows reads #V #N (keeps 0 h) in
      let w = rules-write d 0 h (omega arith) in
      record {
        writes = w.writes;
        many = let q = w.ends in omega arith;
        taken = sym (ap (taken_before rows) (sym e) ∙ w.taken ∙ omega arith);
      }
