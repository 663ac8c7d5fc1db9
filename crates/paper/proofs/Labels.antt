-- Laws of labels: membership by `has`, labels that rise, and what a unique label tells. Where the labels of a formula
-- rise, as those of a table do, each branch is a part of them, and a candidate or a site is known by its label.
use Prim.Native.Nat.{ℕ, suc, ◌<◌, ◌≤◌}
use native.Mathlib.Omega.{arith}
use native.Mathlib.Nat.{le_trans, le_antisymm}
use mathlib.Core.Path.{◌≡◌, refl, sym, subst, ap, ◌∙◌}
use mathlib.Core.Bool.{Bool, true, false, false≢true}
use mathlib.Core.Logic.{◌⊎◌, inl, inr}
use mathlib.Core.List.Memᴰ
use mathlib.Core.List.{List, [], ◌∷◌, ◌++◌, map, append-nil, map-append, Memᴰ}
use mathlib.Core.List.Sublistᴰ
use mathlib.Core.List.{Sublistᴰ}
use borrow.Author.Tests.{eq-eqb, eqb-true}
use Rattle.paper.specs.Lists.{those}
use Rattle.paper.specs.Formula.{Label, Variable, Candidate, same, alike, has, labels, labels_of, candidates, candidates_of, Rising}
use Rattle.paper.specs.Formula.{Formula, Formulas, FALSE, test, candidate, conjunction, disjunction, exists, IF, only, ◌⨾◌}
use Rattle.paper.specs.Branch.{branches, of_each, of_any}
use Rattle.paper.proofs.Bools.{or_left, or_right, or_cases, pick}
use Rattle.paper.proofs.Lists.{to-any, of-any, any_append, to-those, of-those, of-pairs}

pub same_refl : (i : Label) → same i i ≡ true
same_refl i = eq-eqb i.0 i.0 refl

pub same-eq : (i j : Label) → same i j ≡ true → i ≡ j
same-eq i j h = ap (λ n. record { 0 = n }) (eqb-true i.0 j.0 h)

pub alike_refl : (v : Variable) → alike v v ≡ true
alike_refl v = eq-eqb v.0 v.0 refl

pub alike-eq : (v w : Variable) → alike v w ≡ true → v ≡ w
alike-eq v w h = ap (λ n. record { 0 = n }) (eqb-true v.0 w.0 h)

-- a label of a list
pub has-mem : (b : List Label) (l : Label) → has b l ≡ true → Memᴰ l b
has-mem b l h = let (i, t, e) = of-any (same l) b h in subst (λ j. Memᴰ j b) (sym (same-eq l i e)) t

pub mem-has : {b : List Label} {l : Label} → Memᴰ l b → has b l ≡ true
mem-has {b} {l} t = to-any (same l) t (same_refl l)

pub has-head : (l : Label) (b : List Label) → has (l ∷ b) l ≡ true
has-head l b = or_left (same l l) (has b l) (same_refl l)

pub has_left : (b c : List Label) (l : Label) → has b l ≡ true → has (b ++ c) l ≡ true
has_left b c l h = any_append (same l) b c ∙ or_left (has b l) (has c l) h

pub has_right : (b c : List Label) (l : Label) → has c l ≡ true → has (b ++ c) l ≡ true
has_right b c l h = any_append (same l) b c ∙ or_right (has b l) (has c l) h

pub has-cases : (b c : List Label) (l : Label) → has (b ++ c) l ≡ true → (has b l ≡ true) ⊎ (has c l ≡ true)
has-cases b c l h = or_cases (has b l) (has c l) (sym (any_append (same l) b c) ∙ h)

-- a label of a list of one
pub has_one : (l i : Label) → has (l ∷ []) i ≡ true → i ≡ l
has_one l i h = pick (or_cases (same i l) false h) (same-eq i l) (λ e. absurd (false≢true e))

-- the labels that pass a test
pub has-those : (p : Label → Bool) (xs : List Label) (l : Label) → has xs l ≡ true → p l ≡ true → has (those p xs) l ≡ true
has-those p xs l h k = mem-has (to-those p (has-mem xs l h) k)

pub those-has : (p : Label → Bool) (xs : List Label) (l : Label) → has (those p xs) l ≡ true → (has xs l ≡ true) × (p l ≡ true)
those-has p xs l h = let (t, k) = of-those p xs (has-mem (those p xs) l h) in (mem-has t, k)

-- labels that rise
pub rising-weaken : {p q : ℕ} (xs : List Label) → p ≤ q → Rising q xs → Rising p xs
rising-weaken [] h r = tt
rising-weaken (x ∷ xs) h r = (le_trans h r.0, r.1)

pub rising-sub : {xs ys : List Label} (p : ℕ) → Sublistᴰ xs ys → Rising p ys → Rising p xs
rising-sub p Sublistᴰ.slnil r = tt
rising-sub {xs = xs} p (Sublistᴰ.cons {a = a} s) r = rising-weaken xs (let h = r.0 in omega arith) (rising-sub (suc a.0) s r.1)
rising-sub p (Sublistᴰ.cons-cons {b = b} e s) r = rw e (r.0, rising-sub (suc b.0) s r.1)

pub rising-above : {p : ℕ} (xs : List Label) (l : Label) → Rising p xs → has xs l ≡ true → p ≤ l.0
rising-above [] l r h = absurd (false≢true h)
rising-above {p} (x ∷ xs) l r h =
    pick (or_cases (same l x) (has xs l) h) (λ e. subst (λ i. p ≤ i.0) (sym (same-eq l x e)) r.0)
    (λ t. let k = rising-above xs l r.1 t in let j = r.0 in omega arith)

-- labels that rise over two lists
pub rising-split : (p : ℕ) (xs ys : List Label) → Rising p (xs ++ ys)
    → (q : ℕ) × (p ≤ q) × Rising p xs × Rising q ys × ((l : Label) → has xs l ≡ true → l.0 < q)
rising-split p [] ys r = (p, (omega arith), tt, r, λ l h. absurd (false≢true h))
rising-split p (x ∷ xs) ys r =
    let (q, le, rx, ry, below) = rising-split (suc x.0) xs ys r.1 in
    let a = r.0 in
    (q, (omega arith), (a, rx), ry, λ l h. pick (or_cases (same l x) (has xs l) h) (λ e. let z = eqb-true l.0 x.0 e in omega arith) (below l))

-- two rising lists with the same members are equal
pub rising-ext : (p q : ℕ) (xs ys : List Label) → Rising p xs → Rising q ys → ((l : Label) → has xs l ≡ true → has ys l ≡ true)
    → ((l : Label) → has ys l ≡ true → has xs l ≡ true) → xs ≡ ys
rising-ext p q [] [] r s f g = refl
rising-ext p q [] (y ∷ ys) r s f g = absurd (false≢true (g y (has-head y ys)))
rising-ext p q (x ∷ xs) [] r s f g = absurd (false≢true (f x (has-head x xs)))
rising-ext p q (x ∷ xs) (y ∷ ys) r s f g =
    let e = heads in let t = rising-ext (suc x.0) (suc y.0) xs ys r.1 s.1 (tail xs ys x y e r.1 f) (tail ys xs y x (sym e) s.1 g) in cc
  where
    at_least : (a b : Label) (bs : List Label) → Rising (suc b.0) bs → has (b ∷ bs) a ≡ true → b.0 ≤ a.0
    at_least a b bs u h =
        pick (or_cases (same a b) (has bs a) h)
        (λ e. let q = ap (λ (l : Label). l.0) (same-eq a b e) in omega arith)
        (λ t. let q = rising-above bs a u t in omega arith)

    heads : x ≡ y
    heads = ap (λ n. record { 0 = n }) (le_antisymm (at_least y x xs r.1 (g y (has-head y ys))) (at_least x y ys s.1 (f x (has-head x xs))))

    tail : (us ws : List Label) (a b : Label) → a ≡ b → Rising (suc a.0) us → ((l : Label) → has (a ∷ us) l ≡ true → has (b ∷ ws) l ≡ true)
        → (l : Label) → has us l ≡ true → has ws l ≡ true
    tail us ws a b e u w l h =
        pick (or_cases (same l b) (has ws l) (w l (or_right (same l a) (has us l) h)))
        (λ q. let k = rising-above us l u h in let z = ap (λ (i : Label). i.0) (same-eq l b q ∙ sym e) in absurd (omega arith)) (λ t. t)

-- a label that is in a part is in the whole
pub sub-has : {xs ys : List Label} (l : Label) → Sublistᴰ xs ys → has xs l ≡ true → has ys l ≡ true
sub-has l Sublistᴰ.slnil h = h
sub-has l (Sublistᴰ.cons {a = a} {l₂ = ys} s) h = or_right (same l a) (has ys l) (sub-has l s h)
sub-has l (Sublistᴰ.cons-cons {a = a} {b = b} {l₁ = xs} {l₂ = ys} e s) h =
    pick (or_cases (same l a) (has xs l) h)
    (λ q. or_left (same l b) (has ys l) (subst (λ z. same l z ≡ true) e q))
    (λ q. or_right (same l b) (has ys l) (sub-has l s q))

one_label : {b : List Label} {l : Label} (ls : List Label) → Memᴰ b ((l ∷ []) ∷ []) → Sublistᴰ b (l ∷ ls)
one_label {b} {l} ls t = subst (λ c. Sublistᴰ c (l ∷ ls)) (sym (Memᴰ.eq_of_singleton t)) (Sublistᴰ.cons-cons refl (Sublistᴰ.nil-sublist ls))

of_either : (xs ys : List Label) (bs cs : List (List Label)) (b : List Label) → (Memᴰ b bs → Sublistᴰ b xs) → (Memᴰ b cs → Sublistᴰ b ys)
    → Memᴰ b (bs ++ cs) → Sublistᴰ b (xs ++ ys)
of_either xs ys bs cs b l r t =
    pick (Memᴰ.append_cases bs t)
    (λ s. subst (λ z. Sublistᴰ z (xs ++ ys)) (append-nil b) (Sublistᴰ.append (l s) (Sublistᴰ.nil-sublist ys)))
    (λ s. Sublistᴰ.append (Sublistᴰ.nil-sublist xs) (r s))

-- a branch is a part of the labels
mutual
  pub branch-sub : (f : Formula) (b : List Label) → Memᴰ b (branches f) → Sublistᴰ b (labels f)
  branch-sub (FALSE l) b t = one_label [] t
  branch-sub (test s) b t = one_label [] t
  branch-sub (candidate l v s) b t = one_label (s.label ∷ []) t
  branch-sub (conjunction l fs) b t = Sublistᴰ.cons (each-sub fs b t)
  branch-sub (disjunction l fs) b t = Sublistᴰ.cons (any-sub fs b t)
  branch-sub (exists l s f) b t = Sublistᴰ.cons (Sublistᴰ.cons (branch-sub f b t))
  branch-sub (IF l s f g) b t =
      let under = of_either (labels f) (labels g) (branches f) (branches g) b (λ u. branch-sub f b u) (λ u. branch-sub g b u) t in
      Sublistᴰ.cons (Sublistᴰ.cons under)

  pub each-sub : (fs : Formulas) (b : List Label) → Memᴰ b (of_each fs) → Sublistᴰ b (labels_of fs)
  each-sub (only f) b t = branch-sub f b t
  each-sub (f ⨾ fs) b t =
      let (c, d, u, w, e) = of-pairs (branches f) (of_each fs) t in
      subst (λ z. Sublistᴰ z (labels f ++ labels_of fs)) (sym e) (Sublistᴰ.append (branch-sub f c u) (each-sub fs d w))

  pub any-sub : (fs : Formulas) (b : List Label) → Memᴰ b (of_any fs) → Sublistᴰ b (labels_of fs)
  any-sub (only f) b t = branch-sub f b t
  any-sub (f ⨾ fs) b t = of_either (labels f) (labels_of fs) (branches f) (of_any fs) b (λ u. branch-sub f b u) (λ u. any-sub fs b u) t

module _ {A : Type 0} (label_of : A → Label) where
  pub known : (p : ℕ) (xs : List A) → Rising p (map label_of xs) → (c d : A) → Memᴰ c xs → Memᴰ d xs → label_of c ≡ label_of d → c ≡ d
  known p [] r c d t u e = absurd (Memᴰ.not-nil t)
  known p (x ∷ xs) r c d t u e = go (Memᴰ.cases_cons t) (Memᴰ.cases_cons u) (known (suc (label_of x).0) xs r.1 c d)
    where
      later : (a : A) → Memᴰ a xs → suc (label_of x).0 ≤ (label_of a).0
      later a s = rising-above (map label_of xs) (label_of a) r.1 (mem-has (Memᴰ.map label_of s))

      clash : (a b : A) → a ≡ x → Memᴰ b xs → label_of a ≡ label_of b → ⊥
      clash a b q s h = let k = later b s in let z = ap (λ (l : Label). l.0) (sym (ap label_of q) ∙ h) in omega arith

      go : (c ≡ x) ⊎ Memᴰ c xs → (d ≡ x) ⊎ Memᴰ d xs → (Memᴰ c xs → Memᴰ d xs → label_of c ≡ label_of d → c ≡ d) → c ≡ d
      go (inl q) (inl w) k = q ∙ sym w
      go (inl q) (inr w) k = absurd (clash c d q w e)
      go (inr q) (inl w) k = absurd (clash d c w q (sym e))
      go (inr q) (inr w) k = k q w e

-- the candidates' labels are a part of the labels
abbrev label_of : Candidate → Label
label_of c = c.label

mutual
  pub candidate-sub : (f : Formula) → Sublistᴰ (map label_of (candidates f)) (labels f)
  candidate-sub (FALSE l) = Sublistᴰ.nil-sublist _
  candidate-sub (test s) = Sublistᴰ.nil-sublist _
  candidate-sub (candidate l v s) = Sublistᴰ.cons-cons refl (Sublistᴰ.nil-sublist _)
  candidate-sub (conjunction l fs) = Sublistᴰ.cons (candidates-sub fs)
  candidate-sub (disjunction l fs) = Sublistᴰ.cons (candidates-sub fs)
  candidate-sub (exists l s f) = Sublistᴰ.cons (Sublistᴰ.cons (candidate-sub f))
  candidate-sub (IF l s f g) =
      rw (map-append label_of (candidates f) (candidates g))
      (Sublistᴰ.cons (Sublistᴰ.cons (Sublistᴰ.append (candidate-sub f) (candidate-sub g))))

  pub candidates-sub : (fs : Formulas) → Sublistᴰ (map label_of (candidates_of fs)) (labels_of fs)
  candidates-sub (only f) = candidate-sub f
  candidates-sub (f ⨾ fs) = rw (map-append label_of (candidates f) (candidates_of fs)) (Sublistᴰ.append (candidate-sub f) (candidates-sub fs))

pub known-candidate : (f : Formula) → Rising 0 (labels f) → (c d : Candidate) → Memᴰ c (candidates f) → Memᴰ d (candidates f)
    → c.label ≡ d.label → c ≡ d
known-candidate f r = known label_of 0 (candidates f) (rising-sub 0 (candidate-sub f) r)
