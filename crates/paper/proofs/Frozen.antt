-- Frozen sets are the least solution of Table 1's constraints (specs/Statements.antt, 2). The sites' labels are the
-- formula's labels, which rise, so a label has one site, and its frozen set is what the stars of this site read.
use Prim.Native.Nat.{ℕ, ◌<◌}
use mathlib.Core.Path.{◌≡◌, refl, sym, ap, ◌∙◌}
use mathlib.Core.Bool.{Bool, true, ◌&&◌, ◌||◌, or-false, false≢true}
use mathlib.Core.Logic.{◌⊎◌, inl, inr}
use mathlib.Core.List.Memᴰ
use mathlib.Core.List.{List, [], ◌∷◌, ◌++◌, map, map-append, Memᴰ}
use Rattle.paper.specs.Formula.{Label, Variable, Star, same, alike, holds, lab, labels, labels_of, stars, stars_of, candidates, assigns}
use Rattle.paper.specs.Formula.{Rising, WellFormed, Formula, Formulas, FALSE, test, candidate, conjunction, disjunction, exists, IF, only, ◌⨾◌}
use Rattle.paper.specs.Frozen.{Site, sites_under, sites_of, sites, are_read, frozen, Holds, Inside, Constrained, ConstrainedUnder}
use Rattle.paper.specs.Statements.{FrozenIsLeast}
use Rattle.paper.proofs.Bools.{or_left, or_right, or_cases, both, and_left, and_right, same_answer, pick}
use Rattle.paper.proofs.Lists.{to-any, of-any, any_append}
use Rattle.paper.proofs.Labels.{same_refl, same-eq, alike-eq, known}

-- each member of a list has a property, as a tuple
module _ {A : Type 0} (P : A → Type 0) where
  abbrev Each : List A → Type 0
  Each [] = Unit {0}
  Each (x ∷ xs) = P x × Each xs

  each_of : {a : A} {xs : List A} → Memᴰ a xs → Each xs → P a
  each_of (Memᴰ.head e) h = rw e h.0
  each_of (Memᴰ.tail t) h = each_of t h.1

  to-each : (xs : List A) → ((a : A) → Memᴰ a xs → P a) → Each xs
  to-each [] h = tt
  to-each (x ∷ xs) h = (h x (Memᴰ.head refl), to-each xs (λ a t. h a (Memᴰ.tail t)))

  each_append : (xs ys : List A) → Each xs → Each ys → Each (xs ++ ys)
  each_append [] ys h k = k
  each_append (x ∷ xs) ys h k = (h.0, each_append xs ys h.1 k)

  each_left : (xs ys : List A) → Each (xs ++ ys) → Each xs
  each_left [] ys h = tt
  each_left (x ∷ xs) ys h = (h.0, each_left xs ys h.1)

  each_right : (xs ys : List A) → Each (xs ++ ys) → Each ys
  each_right [] ys h = h
  each_right (x ∷ xs) ys h = each_right xs ys h.1

-- the guards around what a row with the star s guards
abbrev within : List Star → Star → List Star
within g s = g ++ (s ∷ [])

-- the sites' labels are the formula's labels
abbrev label_of : Site → Label
label_of s = s.label

mutual
  pub site-labels : (g : List Star) (f : Formula) → map label_of (sites_under g f) ≡ labels f
  site-labels g (FALSE l) = refl
  site-labels g (test s) = refl
  site-labels g (candidate l v s) = refl
  site-labels g (conjunction l fs) = ap (λ ls. l ∷ ls) (site-labels-of g fs)
  site-labels g (disjunction l fs) = ap (λ ls. l ∷ ls) (site-labels-of g fs)
  site-labels g (exists l s f) = ap (λ ls. l ∷ s.label ∷ ls) (site-labels _ f)
  site-labels g (IF l s f h) =
      rw (map-append label_of (sites_under (within g s) f) (sites_under (within g s) h), site-labels (within g s) f, site-labels (within g s) h)

  pub site-labels-of : (g : List Star) (fs : Formulas) → map label_of (sites_of g fs) ≡ labels_of fs
  site-labels-of g (only f) = site-labels g f
  site-labels-of g (f ⨾ fs) = rw (map-append label_of (sites_under g f) (sites_of g fs), site-labels g f, site-labels-of g fs)

-- what is frozen at a label is read by the stars of a site with this label, and the other way round
pub site-of-frozen : (f : Formula) (l : Label) (v : Variable) → frozen f l v ≡ true
    → (s : Site) × Memᴰ s (sites f) × (l ≡ s.label) × (are_read s.stars v ≡ true)
site-of-frozen f l v h =
    let (s, t, e) = of-any (λ s. same l s.label && are_read s.stars v) (sites f) h in
    (s, t, same-eq l s.label (and_left (same l s.label) _ e), and_right (same l s.label) _ e)

pub frozen-of-site : (f : Formula) (s : Site) (v : Variable) → Memᴰ s (sites f) → are_read s.stars v ≡ true → frozen f s.label v ≡ true
frozen-of-site f s v t h = to-any (λ i. same s.label i.label && are_read i.stars v) t (both (same s.label s.label) _ (same_refl s.label) h)

pub known-site : (f : Formula) → Rising 0 (labels f) → (s t : Site) → Memᴰ s (sites f) → Memᴰ t (sites f) → s.label ≡ t.label → s ≡ t
known-site f r = known label_of 0 (sites f) (rw (site-labels [] f) r)

pub frozen-at-site : (f : Formula) → Rising 0 (labels f) → (s : Site) → Memᴰ s (sites f) → (v : Variable) → frozen f s.label v ≡ are_read s.stars v
frozen-at-site f r s t v =
    same_answer (frozen f s.label v) (are_read s.stars v)
    (λ h. let (i, u, e, k) = site-of-frozen f s.label v h in rw (known-site f r s i t u e) k)
    (frozen-of-site f s v t)

-- what a star and the guards around it read together
reads_more : (g : List Star) (s : Star) (v : Variable) → are_read (within g s) v ≡ (are_read g v || holds s.reads v)
reads_more g s v = any_append (λ t. holds t.reads v) g (s ∷ []) ∙ ap (λ t. are_read g v || t) (or-false (holds s.reads v))

reads_before : (g : List Star) (s : Star) (v : Variable) → are_read g v ≡ true → are_read (within g s) v ≡ true
reads_before g s v h = reads_more g s v ∙ or_left (are_read g v) (holds s.reads v) h

reads-last : (g : List Star) (s : Star) (v : Variable) → holds s.reads v ≡ true → are_read (within g s) v ≡ true
reads-last g s v h = reads_more g s v ∙ or_right (are_read g v) (holds s.reads v) h

reads-cases : (g : List Star) (s : Star) (v : Variable) → are_read (within g s) v ≡ true → (are_read g v ≡ true) ⊎ (holds s.reads v ≡ true)
reads-cases g s v h = or_cases (are_read g v) (holds s.reads v) (sym (reads_more g s v) ∙ h)

module _ (F : Label → Variable → Bool) where
  -- F has at a label just what stars read, or it has at least this
  abbrev Reads : Label → List Star → Type 0
  Reads l g = (v : Variable) → F l v ≡ are_read g v

  abbrev Covers : Label → List Star → Type 0
  Covers l g = (v : Variable) → are_read g v ≡ true → F l v ≡ true

  -- and so at each site with the site's stars
  abbrev ReadsEach : List Site → Type 0
  ReadsEach = Each (λ s. Reads s.label s.stars)

  abbrev CoversEach : List Site → Type 0
  CoversEach = Each (λ s. Covers s.label s.stars)

  -- a family that has just what the stars read solves the constraints
  root-covers : (g : List Star) (f : Formula) → ReadsEach (sites_under g f) → Covers (lab f) g
  root-covers g (FALSE l) a v h = a.0 v ∙ h
  root-covers g (test s) a v h = a.0 v ∙ reads_before g s v h
  root-covers g (candidate l w s) a v h = a.0 v ∙ reads_before g s v h
  root-covers g (conjunction l fs) a v h = a.0 v ∙ h
  root-covers g (disjunction l fs) a v h = a.0 v ∙ h
  root-covers g (exists l s f) a v h = a.0 v ∙ h
  root-covers g (IF l s f k) a v h = a.0 v ∙ h

  star-holds : (g : List Star) (s : Star) → Reads s.label (within g s) → Holds F s
  star-holds g s own v h = own v ∙ reads-last g s v h

  row-inside-star : (l : Label) (g : List Star) (s : Star) → Reads l g → Reads s.label (within g s) → Inside F l s.label
  row-inside-star l g s row own v h = own v ∙ reads_before g s v (sym (row v) ∙ h)

  inside-root : (l : Label) (g : List Star) (f : Formula) → Reads l g → ReadsEach (sites_under g f) → Inside F l (lab f)
  inside-root l g f row a v h = root-covers g f a v (sym (row v) ∙ h)

  mutual
    constrained : (g : List Star) (f : Formula) → ReadsEach (sites_under g f) → Constrained F f
    constrained g (FALSE l) a = tt
    constrained g (test s) a = star-holds g s a.0
    constrained g (candidate l w s) (row, (own, _)) = (star-holds g s own, λ v h. own v ∙ sym (row v) ∙ h, λ v h. row v ∙ sym (own v) ∙ h)
    constrained g (conjunction l fs) (row, a) = constrained-under l g fs row a
    constrained g (disjunction l fs) (row, a) = constrained-under l g fs row a
    constrained g (exists l s f) (row, (own, a)) =
        (star-holds g s own, row-inside-star l g s row own, inside-root s.label (within g s) f own a, constrained (within g s) f a)
    constrained g (IF l s f k) (row, (own, a)) =
        let b = each_left _ (sites_under (within g s) f) (sites_under (within g s) k) a in
        let c = each_right _ (sites_under (within g s) f) (sites_under (within g s) k) a in (
          star-holds g s own,
          row-inside-star l g s row own,
          inside-root s.label (within g s) f own b,
          inside-root s.label (within g s) k own c,
          constrained (within g s) f b,
          constrained (within g s) k c,
        )

    constrained-under : (l : Label) (g : List Star) (fs : Formulas) → Reads l g → ReadsEach (sites_of g fs) → ConstrainedUnder F l fs
    constrained-under l g (only f) row a = (inside-root l g f row a, constrained g f a)
    constrained-under l g (f ⨾ fs) row a =
        let b = each_left _ (sites_under g f) (sites_of g fs) a in
        (inside-root l g f row b, constrained g f b, constrained-under l g fs row (each_right _ (sites_under g f) (sites_of g fs) a))

  -- a family that solves the constraints has at least what the stars read
  star-covers : (g : List Star) (s : Star) → Holds F s → Covers s.label g → Covers s.label (within g s)
  star-covers g s own around v h = pick (reads-cases g s v h) (around v) (own v)

  mutual
    covered : (g : List Star) (f : Formula) → Constrained F f → Covers (lab f) g → CoversEach (sites_under g f)
    covered g (FALSE l) c row = (row, tt)
    covered g (test s) c row = (star-covers g s c row, tt)
    covered g (candidate l w s) c row = let own = star-covers g s c.0 (λ v h. c.1 v (row v h)) in (λ v h. c.2 v (own v h), (own, tt))
    covered g (conjunction l fs) c row = (row, covered-under l g fs c row)
    covered g (disjunction l fs) c row = (row, covered-under l g fs c row)
    covered g (exists l s f) c row =
        let own = star-covers g s c.0 (λ v h. c.1 v (row v h)) in
        (row, (own, covered (within g s) f c.3 (λ v h. c.2 v (own v h))))
    covered g (IF l s f k) c row =
        let own = star-covers g s c.0 (λ v h. c.1 v (row v h)) in
        let left = covered (within g s) f c.4 (λ v h. c.2 v (own v h)) in
        let right = covered (within g s) k c.5 (λ v h. c.3 v (own v h)) in
        (row, (own, each_append _ (sites_under (within g s) f) (sites_under (within g s) k) left right))

    covered-under : (l : Label) (g : List Star) (fs : Formulas) → ConstrainedUnder F l fs → Covers l g → CoversEach (sites_of g fs)
    covered-under l g (only f) c row = covered g f c.1 (λ v h. c.0 v (row v h))
    covered-under l g (f ⨾ fs) c row =
        each_append _ (sites_under g f) (sites_of g fs) (covered g f c.1 (λ v h. c.0 v (row v h))) (covered-under l g fs c.2 row)

pub frozen-is-least : (f : Formula) → FrozenIsLeast f
frozen-is-least f r = record {
  solves = constrained (frozen f) [] f (to-each _ (sites f) (frozen-at-site f r));
  least = λ F c l v h.
      let (s, t, e, k) = site-of-frozen f l v h in
      rw e (each_of _ t (covered F [] f c (λ w z. absurd (false≢true z))) v k);
}

-- a property of the guards and of the formula's stars is one of the stars of each site
module _ (P : Star → Type 0) where
  mutual
    stars-at-sites : (g : List Star) (f : Formula) → Each P g → Each P (stars f) → Each (λ s. Each P s.stars) (sites_under g f)
    stars-at-sites g (FALSE l) p q = (p, tt)
    stars-at-sites g (test s) p q = (each_append P g (s ∷ []) p q, tt)
    stars-at-sites g (candidate l w s) p q = let own = each_append P g (s ∷ []) p q in (own, (own, tt))
    stars-at-sites g (conjunction l fs) p q = (p, stars-at-sites-of g fs p q)
    stars-at-sites g (disjunction l fs) p q = (p, stars-at-sites-of g fs p q)
    stars-at-sites g (exists l s f) p q = let own = each_append P g (s ∷ []) p (q.0, tt) in (p, (own, stars-at-sites (within g s) f own q.1))
    stars-at-sites g (IF l s f k) p q =
        let own = each_append P g (s ∷ []) p (q.0, tt) in
        let left = stars-at-sites (within g s) f own (each_left P (stars f) (stars k) q.1) in
        let right = stars-at-sites (within g s) k own (each_right P (stars f) (stars k) q.1) in
        (p, (own, each_append _ (sites_under (within g s) f) (sites_under (within g s) k) left right))

    stars-at-sites-of : (g : List Star) (fs : Formulas) → Each P g → Each P (stars_of fs) → Each (λ s. Each P s.stars) (sites_of g fs)
    stars-at-sites-of g (only f) p q = stars-at-sites g f p q
    stars-at-sites-of g (f ⨾ fs) p q =
        each_append _ (sites_under g f) (sites_of g fs)
        (stars-at-sites g f p (each_left P (stars f) (stars_of fs) q)) (stars-at-sites-of g fs p (each_right P (stars f) (stars_of fs) q))

pub site-stars : (g : List Star) (f : Formula) (s : Site) → Memᴰ s (sites_under g f) → (t : Star) → Memᴰ t s.stars
    → Memᴰ t g ⊎ Memᴰ t (stars f)
site-stars g f s u t w =
    each_of _ w (each_of _ u (stars-at-sites _ g f (to-each _ g (λ i x. inl x)) (to-each _ (stars f) (λ i x. inr x))))

-- what is frozen or assigned in a well_formed formula is one of its variables
pub frozen-range : {#V : ℕ} {f : Formula} → WellFormed #V f → (l : Label) (v : Variable) → frozen f l v ≡ true → v.0 < #V
frozen-range {#V} {f} wf l v h =
    let (s, t, e, k) = site-of-frozen f l v h in
    let (i, u, r) = of-any (λ i. holds i.reads v) s.stars k in
    wf.read i (pick (site-stars [] f s t i u) (λ z. absurd (Memᴰ.not-nil z)) (λ z. z)) v r

pub assigned-range : {#V : ℕ} {f : Formula} → WellFormed #V f → (v : Variable) (l : Label) → assigns f v l ≡ true → v.0 < #V
assigned-range {#V} {f} wf v l h =
    let (c, t, e) = of-any (λ c. same l c.label && alike v c.variable) (candidates f) h in
    rw (alike-eq v c.variable (and_right (same l c.label) _ e)) (wf.assigned c t)
