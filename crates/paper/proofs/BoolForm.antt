-- The branches are exactly the minimal models of bool_form (specs/Statements.antt, 1). A branch is a model, every model
-- holds a branch, and no branch lies in another one: the parts of a formula share no label, and no branch is empty.
use Prim.Native.Nat.{ℕ, suc}
use native.Mathlib.Omega.{arith}
use mathlib.Core.Path.{◌≡◌, refl, sym, ◌∙◌}
use mathlib.Core.Bool.{Bool, true, false, ◌||◌, false≢true}
use mathlib.Core.Logic.{◌⊎◌, inl, inr}
use mathlib.Core.List.Memᴰ
use mathlib.Core.List.{List, [], ◌∷◌, ◌++◌, Memᴰ}
use mathlib.Core.List.{Sublistᴰ}
use Rattle.paper.specs.Lists.{pairs}
use Rattle.paper.specs.Formula.{Label, has, labels, labels_of, Rising, Formula, Formulas, FALSE}
use Rattle.paper.specs.Formula.{test, candidate, conjunction, disjunction, exists, IF, only, ◌⨾◌}
use Rattle.paper.specs.Branch.{branches, of_each, of_any}
use Rattle.paper.specs.BoolForm.{models, models_each, models_any, Part}
use Rattle.paper.specs.Statements.{BranchesAreMinimalModels}
use Rattle.paper.proofs.Bools.{or_left, or_right, or_cases, both, and_left, and_right, same_answer, pick}
use Rattle.paper.proofs.Lists.{to-pairs, of-pairs}
use Rattle.paper.proofs.Labels.{has-head, has_left, has_right, has-cases, has_one, rising-above, rising-split, sub-has, branch-sub, each-sub, any-sub}

-- a set larger than a model is a model
or-grows : (s t u w : Bool) → (s ≡ true → t ≡ true) → (u ≡ true → w ≡ true) → (s || u) ≡ true → (t || w) ≡ true
or-grows s t u w f g h = pick (or_cases s u h) (λ e. or_left t w (f e)) (λ e. or_right t w (g e))

module _ (S T : Label → Bool) (sub : Part S T) where
  mutual
    larger-models : (f : Formula) → models S f ≡ true → models T f ≡ true
    larger-models (FALSE l) h = sub l h
    larger-models (test s) h = sub s.label h
    larger-models (candidate l v s) h = sub l h
    larger-models (conjunction l fs) h = larger-models-each fs h
    larger-models (disjunction l fs) h = larger-models-any fs h
    larger-models (exists l s f) h = larger-models f h
    larger-models (IF l s f g) h = or-grows (models S f) (models T f) (models S g) (models T g) (λ k. larger-models f k) (λ k. larger-models g k) h

    larger-models-each : (fs : Formulas) → models_each S fs ≡ true → models_each T fs ≡ true
    larger-models-each (only f) h = larger-models f h
    larger-models-each (f ⨾ fs) h = both (models T f) _ (larger-models f (and_left (models S f) _ h)) (larger-models-each fs (and_right (models S f) _ h))

    larger-models-any : (fs : Formulas) → models_any S fs ≡ true → models_any T fs ≡ true
    larger-models-any (only f) h = larger-models f h
    larger-models-any (f ⨾ fs) h =
        or-grows (models S f) (models T f) (models_any S fs) (models_any T fs) (λ k. larger-models f k) (λ k. larger-models-any fs k) h

-- a branch is a model
has-alone : (b : List Label) (l : Label) → Memᴰ b ((l ∷ []) ∷ []) → has b l ≡ true
has-alone b l t = rw (Memᴰ.eq_of_singleton t) (has-head l [])

of_either : (s t : Bool) (bs cs : List (List Label)) (b : List Label) → (Memᴰ b bs → s ≡ true) → (Memᴰ b cs → t ≡ true)
    → Memᴰ b (bs ++ cs) → (s || t) ≡ true
of_either s t bs cs b f g u = pick (Memᴰ.append_cases bs u) (λ x. or_left s t (f x)) (λ x. or_right s t (g x))

mutual
  branch-models : (f : Formula) (b : List Label) → Memᴰ b (branches f) → models (has b) f ≡ true
  branch-models (FALSE l) b t = has-alone b l t
  branch-models (test s) b t = has-alone b s.label t
  branch-models (candidate l v s) b t = has-alone b l t
  branch-models (conjunction l fs) b t = branch-models-each fs b t
  branch-models (disjunction l fs) b t = branch-models-any fs b t
  branch-models (exists l s f) b t = branch-models f b t
  branch-models (IF l s f g) b t =
      of_either (models (has b) f) (models (has b) g) (branches f) (branches g) b (λ u. branch-models f b u) (λ u. branch-models g b u) t

  branch-models-each : (fs : Formulas) (b : List Label) → Memᴰ b (of_each fs) → models_each (has b) fs ≡ true
  branch-models-each (only f) b t = branch-models f b t
  branch-models-each (f ⨾ fs) b t =
      let (c, d, u, w, e) = of-pairs (branches f) (of_each fs) t in
      let first = larger-models (has c) (has (c ++ d)) (has_left c d) f (branch-models f c u) in
      let second = larger-models-each (has d) (has (c ++ d)) (has_right c d) fs (branch-models-each fs d w) in
      rw e (both (models (has (c ++ d)) f) _ first second)

  branch-models-any : (fs : Formulas) (b : List Label) → Memᴰ b (of_any fs) → models_any (has b) fs ≡ true
  branch-models-any (only f) b t = branch-models f b t
  branch-models-any (f ⨾ fs) b t =
      of_either (models (has b) f) (models_any (has b) fs) (branches f) (of_any fs) b (λ u. branch-models f b u) (λ u. branch-models-any fs b u) t

-- a model holds a branch
module _ (S : Label → Bool) where
  abbrev Held : List (List Label) → Type 0
  Held bs = (b : List Label) × Memᴰ b bs × Part (has b) S

  held-alone : (l : Label) → S l ≡ true → Held ((l ∷ []) ∷ [])
  held-alone l h = (l ∷ [], Memᴰ.head refl, λ i k. rw (has_one l i k) h)

  held-of-either : (s t : Bool) (bs cs : List (List Label)) → (s ≡ true → Held bs) → (t ≡ true → Held cs) → (s || t) ≡ true → Held (bs ++ cs)
  held-of-either s t bs cs f g h =
      pick (or_cases s t h) (λ e. let (b, u, p) = f e in (b, Memᴰ.append_left cs u, p)) (λ e. let (b, u, p) = g e in (b, Memᴰ.append_right bs u, p))

  mutual
    held : (f : Formula) → models S f ≡ true → Held (branches f)
    held (FALSE l) h = held-alone l h
    held (test s) h = held-alone s.label h
    held (candidate l v s) h = held-alone l h
    held (conjunction l fs) h = held-each fs h
    held (disjunction l fs) h = held_any fs h
    held (exists l s f) h = held f h
    held (IF l s f g) h = held-of-either (models S f) (models S g) (branches f) (branches g) (λ k. held f k) (λ k. held g k) h

    held-each : (fs : Formulas) → models_each S fs ≡ true → Held (of_each fs)
    held-each (only f) h = held f h
    held-each (f ⨾ fs) h =
        let (b, t, p) = held f (and_left (models S f) _ h) in
        let (c, u, q) = held-each fs (and_right (models S f) _ h) in
        (b ++ c, to-pairs t u, λ l k. pick (has-cases b c l k) (p l) (q l))

    held_any : (fs : Formulas) → models_any S fs ≡ true → Held (of_any fs)
    held_any (only f) h = held f h
    held_any (f ⨾ fs) h = held-of-either (models S f) (models_any S fs) (branches f) (of_any fs) (λ k. held f k) (λ k. held_any fs k) h

-- the empty set is no model, so that no branch is empty
mutual
  empty-models : (f : Formula) → models (has []) f ≡ false
  empty-models (FALSE l) = refl
  empty-models (test s) = refl
  empty-models (candidate l v s) = refl
  empty-models (conjunction l fs) = empty-models-each fs
  empty-models (disjunction l fs) = empty-models-any fs
  empty-models (exists l s f) = empty-models f
  empty-models (IF l s f g) = rw (empty-models f) (empty-models g)

  empty-models-each : (fs : Formulas) → models_each (has []) fs ≡ false
  empty-models-each (only f) = empty-models f
  empty-models-each (f ⨾ fs) = rw (empty-models f)

  empty-models-any : (fs : Formulas) → models_any (has []) fs ≡ false
  empty-models-any (only f) = empty-models f
  empty-models-any (f ⨾ fs) = rw (empty-models f) (empty-models-any fs)

filled : (f : Formula) → Memᴰ [] (branches f) → ⊥
filled f t = false≢true (sym (empty-models f) ∙ branch-models f [] t)

filled-any : (fs : Formulas) → Memᴰ [] (of_any fs) → ⊥
filled-any fs t = false≢true (sym (empty-models-any fs) ∙ branch-models-any fs [] t)

-- no branch lies in another one
abbrev Apart : List (List Label) → Type 0
Apart bs = (b c : List Label) → Memᴰ b bs → Memᴰ c bs → Part (has c) (has b) → b ≡ c

apart-alone : (l : Label) → Apart ((l ∷ []) ∷ [])
apart-alone l b c t u p = Memᴰ.eq_of_singleton t ∙ sym (Memᴰ.eq_of_singleton u)

-- two lists of branches, those of the first within the labels xs, those of the second within the labels ys that follow
module _ (p : ℕ) (xs ys : List Label) (rises : Rising p (xs ++ ys)) (bs cs : List (List Label))
    (sub₁ : (b : List Label) → Memᴰ b bs → Sublistᴰ b xs) (sub₂ : (c : List Label) → Memᴰ c cs → Sublistᴰ c ys) where
  clash : (b c : List Label) → Memᴰ b bs → Memᴰ c cs → (l : Label) → has b l ≡ true → has c l ≡ true → ⊥
  clash b c t u l h k =
      let (q, le, rx, ry, below) = rising-split p xs ys rises in
      let x = below l (sub-has l (sub₁ b t) h) in
      let y = rising-above ys l ry (sub-has l (sub₂ c u) k) in omega arith

  apart-pairs : Apart bs → Apart cs → Apart (pairs bs cs)
  apart-pairs p q b c t u sub =
      let (b₁, b₂, x₁, x₂, d) = of-pairs bs cs t in
      let (c₁, c₂, y₁, y₂, e) = of-pairs bs cs u in
      let within : Part (has (c₁ ++ c₂)) (has (b₁ ++ b₂)) = λ l h. rw d at (sub l (rw e h)) in
      let first = p b₁ c₁ x₁ y₁ (λ l h. pick (has-cases b₁ b₂ l (within l (has_left c₁ c₂ l h))) (λ k. k) (λ k. absurd (clash c₁ b₂ y₁ x₂ l h k))) in
      let second = q b₂ c₂ x₂ y₂ (λ l h. pick (has-cases b₁ b₂ l (within l (has_right c₁ c₂ l h))) (λ k. absurd (clash b₁ c₂ x₁ y₂ l k h)) (λ k. k)) in cc

  apart-either : Apart bs → Apart cs → (Memᴰ [] bs → ⊥) → (Memᴰ [] cs → ⊥) → Apart (bs ++ cs)
  apart-either p q full₁ full₂ b [] t u sub = absurd (pick (Memᴰ.append_cases bs u) full₁ full₂)
  apart-either p q full₁ full₂ b (l ∷ c) t u sub = go (Memᴰ.append_cases bs t) (Memᴰ.append_cases bs u) (sub l (has-head l c))
    where
      go : Memᴰ b bs ⊎ Memᴰ b cs → Memᴰ (l ∷ c) bs ⊎ Memᴰ (l ∷ c) cs → has b l ≡ true → b ≡ l ∷ c
      go (inl x) (inl y) h = p b (l ∷ c) x y sub
      go (inl x) (inr y) h = absurd (clash b (l ∷ c) x y l h (has-head l c))
      go (inr x) (inl y) h = absurd (clash (l ∷ c) b y x l (has-head l c) h)
      go (inr x) (inr y) h = q b (l ∷ c) x y sub

mutual
  apart : (p : ℕ) (f : Formula) → Rising p (labels f) → Apart (branches f)
  apart p (FALSE l) r = apart-alone l
  apart p (test s) r = apart-alone s.label
  apart p (candidate l v s) r = apart-alone l
  apart p (conjunction l fs) r = apart-each (suc l.0) fs r.1
  apart p (disjunction l fs) r = apart-any (suc l.0) fs r.1
  apart p (exists l s f) r = apart (suc s.label.0) f r.1.1
  apart p (IF l s f g) r =
      let n = suc s.label.0 in
      let (q, le, rf, rg, below) = rising-split n (labels f) (labels g) r.1.1 in
      apart-either n (labels f) (labels g) r.1.1 (branches f) (branches g) (branch-sub f) (branch-sub g)
      (apart n f rf) (apart q g rg) (filled f) (filled g)

  apart-each : (p : ℕ) (fs : Formulas) → Rising p (labels_of fs) → Apart (of_each fs)
  apart-each p (only f) r = apart p f r
  apart-each p (f ⨾ fs) r =
      let (q, le, rf, rg, below) = rising-split p (labels f) (labels_of fs) r in
      apart-pairs p (labels f) (labels_of fs) r (branches f) (of_each fs) (branch-sub f) (each-sub fs) (apart p f rf) (apart-each q fs rg)

  apart-any : (p : ℕ) (fs : Formulas) → Rising p (labels_of fs) → Apart (of_any fs)
  apart-any p (only f) r = apart p f r
  apart-any p (f ⨾ fs) r =
      let (q, le, rf, rg, below) = rising-split p (labels f) (labels_of fs) r in
      apart-either p (labels f) (labels_of fs) r (branches f) (of_any fs) (branch-sub f) (any-sub fs)
      (apart p f rf) (apart-any q fs rg) (filled f) (filled-any fs)

pub branches-are-minimal-models : (f : Formula) → BranchesAreMinimalModels f
branches-are-minimal-models f r = record {
  each = λ b t. record {
    model = branch-models f b t;
    minimal = λ T sub h l k. let (c, u, p) = held T f h in p l (rw (apart 0 f r b c t u (λ i m. sub i (p i m))) at k);
  };
  all = λ S m.
      let (b, t, p) = held S f m.model in
      (b, t, λ l. same_answer (S l) (has b l) (m.minimal (has b) p (branch-models f b t) l) (p l));
}
