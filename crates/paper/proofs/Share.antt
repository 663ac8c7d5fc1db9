-- Two labels share a branch exactly if the structure says so (specs/Statements.antt, 7): some branch of a formula holds
-- given labels as `some_branch_holds` works it out. At a conjunction a branch is one of the first child joined to one of the rest,
-- and it holds the labels exactly if they part so that the first holds the one part and the second the other.
use Prim.Native.Nat.{ℕ}
use mathlib.Core.Path.{◌≡◌, refl, sym, subst, ap, ◌∙◌}
use mathlib.Core.Bool.{Bool, true, ◌&&◌, and-true, or-false}
use mathlib.Core.List.Memᴰ
use mathlib.Core.List.{List, [], ◌∷◌, ◌++◌, map, Memᴰ}
use Rattle.paper.specs.Lists.{any_of, pairs}
use Rattle.paper.specs.Formula.{Label, has, Formula, Formulas, FALSE, test, candidate, conjunction, disjunction, exists, IF, only, ◌⨾◌}
use Rattle.paper.specs.Branch.{branches, of_each, of_any}
use Rattle.paper.specs.Inside.Structure.Share.{Parting, to_left, to_right, partings, holds_all, some_branch_holds, each_holds, any_holds}
use Rattle.paper.specs.Statements.{SharingSays}
use Rattle.paper.proofs.Bools.{both, and_left, and_right, same_answer, pick}
use Rattle.paper.proofs.Lists.{to-any, of-any, any_append, any_same, of_map, to-pairs, of-pairs}
use Rattle.paper.proofs.Labels.{has_left, has_right, has-cases}

-- b holds the left part and c the right one
abbrev HeldApart : List Label → List Label → Parting → Type 0
HeldApart b c p = (holds_all b p.left ≡ true) × (holds_all c p.right ≡ true)

held-joined : (S b c : List Label) (p : Parting) → Memᴰ p (partings S) → HeldApart b c p → holds_all (b ++ c) S ≡ true
held-joined [] b c p t h = refl
held-joined (x ∷ S) b c p t h =
    pick (Memᴰ.append_cases (map (to_left x) (partings S)) t)
    (λ s. let (q, u, e) = of_map (to_left x) (partings S) s in let (k, j) = subst (HeldApart b c) e h in
    both (has (b ++ c) x) _ (has_left b c x (and_left (has b x) _ k)) (held-joined S b c q u (and_right (has b x) _ k, j)))
    (λ s. let (q, u, e) = of_map (to_right x) (partings S) s in let (k, j) = subst (HeldApart b c) e h in
    both (has (b ++ c) x) _ (has_right b c x (and_left (has c x) _ j)) (held-joined S b c q u (k, and_right (has c x) _ j)))

held-apart : (S b c : List Label) → holds_all (b ++ c) S ≡ true → (p : Parting) × Memᴰ p (partings S) × HeldApart b c p
held-apart [] b c h = (record { left = []; right = [] }, Memᴰ.head refl, (refl, refl))
held-apart (x ∷ S) b c h =
    let (p, t, (k, j)) = held-apart S b c (and_right (has (b ++ c) x) _ h) in
    pick (has-cases b c x (and_left (has (b ++ c) x) _ h))
    (λ e. (to_left x p, Memᴰ.append_left (map (to_right x) (partings S)) (Memᴰ.map (to_left x) t), (both (has b x) _ e k, j)))
    (λ e. (to_right x p, Memᴰ.append_right (map (to_left x) (partings S)) (Memᴰ.map (to_right x) t), (k, both (has c x) _ e j)))

-- some of the branches holds the labels
abbrev any_held : List (List Label) → List Label → Bool
any_held bs S = any_of (λ b. holds_all b S) bs

-- two tests that say so of two lists of branches say it of the branches joined
module _ (bs cs : List (List Label)) (f g : List Label → Bool)
    (left : (S : List Label) → f S ≡ any_held bs S) (right : (S : List Label) → g S ≡ any_held cs S) where
  abbrev apart : Parting → Bool
  apart p = f p.left && g p.right

  held-of-pairs : (S : List Label) → any_of apart (partings S) ≡ any_held (pairs bs cs) S
  held-of-pairs S = same_answer (any_of apart (partings S)) (any_held (pairs bs cs) S) there back
    where
      there : any_of apart (partings S) ≡ true → any_held (pairs bs cs) S ≡ true
      there h =
          let (p, t, k) = of-any apart (partings S) h in
          let (b, u, q) = of-any (λ b. holds_all b p.left) bs (sym (left p.left) ∙ and_left (f p.left) _ k) in
          let (c, w, r) = of-any (λ c. holds_all c p.right) cs (sym (right p.right) ∙ and_right (f p.left) _ k) in
          to-any (λ b. holds_all b S) (to-pairs u w) (held-joined S b c p t (q, r))

      back : any_held (pairs bs cs) S ≡ true → any_of apart (partings S) ≡ true
      back h =
          let (b, t, k) = of-any (λ b. holds_all b S) (pairs bs cs) h in
          let (c, d, u, w, e) = of-pairs bs cs t in
          let (p, s, (q, r)) = held-apart S c d (subst (λ z. holds_all z S ≡ true) e k) in
          to-any apart s
          (both (f p.left) _ (left p.left ∙ to-any (λ b. holds_all b p.left) u q) (right p.right ∙ to-any (λ c. holds_all c p.right) w r))

mutual
  pub some_holds : (f : Formula) (S : List Label) → some_branch_holds f S ≡ any_held (branches f) S
  some_holds (FALSE l) S = sym (or-false (holds_all (l ∷ []) S))
  some_holds (test s) S = sym (or-false (holds_all (s.label ∷ []) S))
  some_holds (candidate l v s) S = sym (or-false (holds_all (l ∷ []) S))
  some_holds (conjunction l fs) S = each_holds-is fs S
  some_holds (disjunction l fs) S = any-holds fs S
  some_holds (exists l s f) S = some_holds f S
  some_holds (IF l s f g) S = let p = some_holds f S in let q = some_holds g S in cc (any_append (λ b. holds_all b S) (branches f) (branches g))

  each_holds-is : (fs : Formulas) (S : List Label) → each_holds fs S ≡ any_held (of_each fs) S
  each_holds-is (only f) S = some_holds f S
  each_holds-is (f ⨾ fs) S = held-of-pairs (branches f) (of_each fs) (some_branch_holds f) (each_holds fs) (λ T. some_holds f T) (λ T. each_holds-is fs T) S

  any-holds : (fs : Formulas) (S : List Label) → any_holds fs S ≡ any_held (of_any fs) S
  any-holds (only f) S = some_holds f S
  any-holds (f ⨾ fs) S = let p = some_holds f S in let q = any-holds fs S in cc (any_append (λ b. holds_all b S) (branches f) (of_any fs))

pub sharing-says : (#V : ℕ) (f : Formula) (A : List Label) → SharingSays #V f A
sharing-says #V f A i j =
    any_same _ (λ b. holds_all b (i ∷ j ∷ [])) (branches f) (λ b t. ap (λ x. has b i && x) (sym (and-true (has b j)))) ∙ sym (some_holds f (i ∷ j ∷ []))
