-- A variable is frozen at a candidate exactly if the candidate's own star reads it, or the star of an exists or IF row that
-- guards it (specs/Inside/Prior.antt, `is_frozen`). By induction over the formula, with the guards around it: they read what the
-- stars of the guarding rows before it read, and a row passed on the way down or aside guards the candidate only if it is an
-- exists or an IF, with the candidate behind its star.
use Prim.Native.Nat.{ℕ, ◌+◌, ◌≤◌}
use native.Mathlib.Omega.{arith}
use mathlib.Core.Path.{◌≡◌, refl, sym, ap, ◌∙◌}
use mathlib.Core.Bool.{Bool, true, false, ◌&&◌, ◌||◌, and-false, or_comm, or-false}
use mathlib.Core.List.Memᴰ
use mathlib.Core.List.{List, [], ◌∷◌, ◌++◌, Memᴰ}
use lib.ListN.{length, length-append, take, drop}
use lib.Dec.{ltb}
use borrow.Author.Tests.{lt-ltb, le-ltb}
use Rattle.paper.specs.declared.Label.{Label}
use Rattle.paper.specs.declared.Variable.{Variable}
use Rattle.paper.specs.Lists.{any_of}
use Rattle.paper.specs.Formula.{ℓ, 𝓋, alike, holds, labels, labels_of, Star, Formula, Formulas}
use Rattle.paper.specs.Formula.{FALSE, test, candidate, conjunction, disjunction, exists, IF, only, ◌⨾◌}
use Rattle.paper.specs.Frozen.{Site, site, sites_under, sites_of, are_read, frozen}
use Rattle.paper.proofs.Bools.{pick}
use Rattle.paper.proofs.Lists.{any_append}
use Rattle.paper.proofs.Frozen.{frozen-at-site}
use Rattle.rows.specs.Rows.{end_of}
use Rattle.written.specs.Written.{size}
use Rattle.written.proofs.Writes.{RowIs, StarIs, Writes, WritesAll}
use Rattle.paper.specs.Lists.{up_to}
use Rattle.rows.specs.Inside.Tree.{is_guarded}
use Rattle.net.specs.Inside.Prior.{star_reads, around, is_frozen}
use Rattle.paper.proofs.UpTo.{any_next, any-past, any-map}
use Rattle.net.proofs.Spans.{rises, ends-inside, Among, past_row, past-star, no-candidate, own_row, either-part}

-- what a star reads is what its row says
star-reads : {rows reads : List ℕ} {s : Star} {i t : ℕ} → StarIs rows reads s i t → (v : ℕ) → holds s.reads (𝓋 v) ≡ star_reads rows reads i v
unfolding star_reads
star-reads {reads = reads} {s = s} {t = t} w v =
    rw (w.row_is.arg_is, w.row_is.from_is) (ap (λ vs. holds vs (𝓋 v)) w.reads_are ∙ any-map 𝓋 (alike (𝓋 v)) (take (length s.reads) (drop t reads)))

-- what stars and one more read
reads_more : (g : List Star) (s : Star) (v : Variable) → are_read (g ++ (s ∷ [])) v ≡ (are_read g v || holds s.reads v)
reads_more g s v = any_append (λ t. holds t.reads v) g (s ∷ []) ∙ ap (λ t. are_read g v || t) (or-false (holds s.reads v))

module _ (rows reads : List ℕ) (x v : ℕ) where
  -- the rows before n that guard row x read v
  abbrev guards_read : ℕ → Bool
  guards_read n = any_of (λ a. is_guarded rows a x && star_reads rows reads (a + 1) v) (up_to n)

  -- behind a row that is no guard; behind one that is, and its star; behind a formula that ends before row x
  behind-plain : {i kind arg end t : ℕ} → RowIs rows reads i kind arg end t → ltb 4 kind ≡ false → guards_read (i + 1) ≡ guards_read i
  behind-plain {i} w other = any_next _ i ∙ simp (w.kind_is, other, or-false)

  behind-guard : {i n kind arg end t : ℕ} {s : Star} → RowIs rows reads i kind arg end t → StarIs rows reads s (i + 1) t → ltb 4 kind ≡ true
      → Among rows x (i + 2) n → i + 2 + n ≤ end → guards_read (i + 2) ≡ (guards_read i || star_reads rows reads (i + 1) v)
  behind-guard {i} {s = s} w own guard c room =
      let e : i + 1 + 1 ≡ i + 2 = omega arith in
      let ends = w.end_is in
      let past = lt-ltb (i + 1) x (omega (arith, c.from)) in
      let under = lt-ltb x (end_of rows i) (omega (arith, c.below)) in
      (rw e at (behind-plain own.row_is refl)) ∙ any_next _ i ∙ simp (w.kind_is, guard, past, under)

  behind-formula : (f : Formula) (i t : ℕ) → Writes rows reads f i t → i + size f ≤ x → guards_read (i + size f) ≡ guards_read i
  behind-formula f i t w h = any-past _ i (i + size f) (omega arith) λ a b c.
      let ends = ends-inside rows reads f i t a w b c in simp (le-ltb x (end_of rows a) (omega arith), and-false)

  -- the candidate's site, whose stars read v as the rows say
  record SiteOf (ss : List Site) : Type 0 where
    found : Site
    listed : Memᴰ found ss
    labelled : found.label ≡ ℓ x
    told : are_read found.stars (𝓋 v) ≡ is_frozen rows reads x v

  behind-site : (s : Site) {ss : List Site} → SiteOf ss → SiteOf (s ∷ ss)
  behind-site s c = record { found = c.found; listed = Memᴰ.tail c.listed; labelled = c.labelled; told = c.told }

  -- the guards around a formula at row i read v if the guards of row x before row i do
  abbrev Around : List Star → ℕ → Type 0
  Around g i = are_read g (𝓋 v) ≡ guards_read i

  -- a candidate
  own-site : {i t : ℕ} {l : Label} {s : Star} (g : List Star) (others : List Site) → l ≡ ℓ i → StarIs rows reads s (i + 1) t → x ≡ i → Around g i
      → SiteOf (site l (g ++ (s ∷ [])) ∷ others)
  unfolding is_frozen around
  own-site {s = s} g others e own here around =
      record {
        found = site _ (g ++ (s ∷ []));
        listed = Memᴰ.head refl;
        labelled = rw (here, e);
        told = reads_more g s (𝓋 v) ∙ rw (around, star-reads own v, ← here) (or_comm (guards_read x) (star_reads rows reads (x + 1) v));
      }

  -- around what an exists or an IF guards
  around-guarded : {i n kind arg end t : ℕ} {s : Star} (g : List Star)
      → RowIs rows reads i kind arg end t → StarIs rows reads s (i + 1) t → ltb 4 kind ≡ true → Among rows x (i + 2) n → i + 2 + n ≤ end
      → Around g i → Around (g ++ (s ∷ [])) (i + 2)
  around-guarded {s = s} g w own guard c room around = reads_more g s (𝓋 v) ∙ rw (around, star-reads own v) (sym (behind-guard w own guard c room))

  -- a child and those after it
  site-of-parts : (i t : ℕ) (g : List Star) (f : Formula) (fs : Formulas)
      → Writes rows reads f i t → Among rows x i (length (labels f ++ labels_of fs)) → Around g i → (Among rows x i (size f) → SiteOf (sites_under g f))
      → (Among rows x (i + size f) (length (labels_of fs)) → Around g (i + size f) → SiteOf (sites_of g fs)) → SiteOf (sites_under g f ++ sites_of g fs)
  site-of-parts i t g f fs w c around first rest =
      pick (either-part (labels f) (labels_of fs) c) (λ d. in-first (first d))
      (λ d. in_rest (rest d (around ∙ sym (behind-formula f i t w d.from))))
    where
      in-first : SiteOf (sites_under g f) → SiteOf (sites_under g f ++ sites_of g fs)
      in-first c = record { found = c.found; listed = Memᴰ.append_left (sites_of g fs) c.listed; labelled = c.labelled; told = c.told }

      in_rest : SiteOf (sites_of g fs) → SiteOf (sites_under g f ++ sites_of g fs)
      in_rest c = record { found = c.found; listed = Memᴰ.append_right (sites_under g f) c.listed; labelled = c.labelled; told = c.told }

  mutual
    site-of : (f : Formula) (i t : ℕ) (g : List Star) → Writes rows reads f i t → Among rows x i (size f) → Around g i → SiteOf (sites_under g f)
    site-of (FALSE l) i t g w c around = absurd (no-candidate w.1 refl c)
    site-of (test s) i t g w c around = absurd (no-candidate w.row_is refl c)
    site-of (candidate l u s) i t g w c around = own-site g _ w.0 w.2 (own_row w.2 c) around
    site-of (conjunction l fs) i t g w c around =
        behind-site (site l g) (site-of-all fs (i + 1) t g w.2 (past_row w.1 refl c) (around ∙ sym (behind-plain w.1 refl)))
    site-of (disjunction l fs) i t g w c around =
        behind-site (site l g) (site-of-all fs (i + 1) t g w.2 (past_row w.1 refl c) (around ∙ sym (behind-plain w.1 refl)))
    site-of (exists l s f) i t g w c around =
        let d = past-star w.1 w.2 refl c in
        let a = around-guarded g w.1 w.2 refl d (omega arith) around in
        behind-site (site l g) (behind-site _ (site-of f (i + 2) _ (g ++ (s ∷ [])) w.3 d a))
    site-of (IF l s f h) i t g w c around =
        let d = past-star w.1 w.2 refl c in
        let a = around-guarded g w.1 w.2 refl d (omega (arith, length-append (labels f) (labels h))) around in
        behind-site (site l g) (behind-site _ (site-of-parts (i + 2) _ (g ++ (s ∷ [])) f (only h) w.3 d a
        (λ e. site-of f (i + 2) _ (g ++ (s ∷ [])) w.3 e a) (λ e b. site-of h (i + 2 + size f) _ (g ++ (s ∷ [])) w.4 e b)))

    site-of-all : (fs : Formulas) (i t : ℕ) (g : List Star) → WritesAll rows reads fs i t → Among rows x i (length (labels_of fs)) → Around g i
        → SiteOf (sites_of g fs)
    site-of-all (only f) i t g w c around = site-of f i t g w c around
    site-of-all (f ⨾ fs) i t g w c around =
        site-of-parts i t g f fs w.0 c around (λ e. site-of f i t g w.0 e around) (λ e b. site-of-all fs (i + size f) _ g w.1 e b)

-- v is frozen at the candidate in row x as its row says
pub frozen-as-rows-say : (rows reads : List ℕ) (f : Formula) → Writes rows reads f 0 0 → (x v : ℕ) → Among rows x 0 (size f)
    → frozen f (ℓ x) (𝓋 v) ≡ is_frozen rows reads x v
frozen-as-rows-say rows reads f w x v c =
    let s = site-of rows reads x v f 0 0 [] w c refl in
    ap (λ l. frozen f l (𝓋 v)) (sym s.labelled) ∙ frozen-at-site f (rises rows reads f 0 0 w) s.found s.listed (𝓋 v) ∙ s.told
