-- Keys of a minimal covering (specs/Statements.antt, 3 and 5). Every branch has one chosen label of each variable, so
-- its key has #V labels: the chosen labels are counted by labels and by variables. A branch within the kept labels of a
-- class has its chosen labels among the class's key, one of each variable, so it is of that class.
use Prim.Native.Nat.{ℕ, suc, ◌+◌, ◌<◌}
use native.Mathlib.Omega.{arith}
use mathlib.Core.Path.{◌≡◌, refl, sym, subst, ap, ◌∙◌}
use mathlib.Core.Bool.{Bool, true, false, cond, ◌&&◌}
use mathlib.Core.List.Sublistᴰ
use mathlib.Core.List.{List, [], ◌∷◌, Memᴰ, Sublistᴰ}
use lib.ListN.{length}
use Rattle.paper.specs.Lists.{any_of, those, how_many}
use Rattle.paper.specs.Formula.{Label, Variable, Candidate, same, alike, has, candidates, assigns, Rising, WellFormed, Formula}
use Rattle.paper.specs.Branch.{branches}
use Rattle.paper.specs.BoolForm.{Part}
use Rattle.paper.specs.Strategy.{Homogeneous, MinimalCovering, Strategy}
use Rattle.paper.specs.Transition.{key, same_key, class, is_kept, keys, slice_by}
use Rattle.paper.specs.Meaning.{Meaning, True}
use Rattle.paper.specs.Judgement.{variables}
use Rattle.paper.specs.Statements.{KeyLength, union}
use Rattle.paper.proofs.Bools.{both, and_left, and_right, same_answer}
use Rattle.paper.proofs.Lists.{to-any, of-any, to-those, of-those, sub-those, how_many-same, how_many-some, how_many-one}
use Rattle.paper.proofs.Labels.{same-eq, alike_refl, has-mem, mem-has, rising-sub, rising-ext, branch-sub, known-candidate}
use Rattle.paper.proofs.Distinct.{same_key-refl, same_key-eq, keys-are-listed}
use Rattle.paper.proofs.Variables.{in-variables, length-variables, variable-one}

-- sums over a list
module _ {A : Type 0} where
  how_many-no : (xs : List A) → how_many (λ a. false) xs ≡ 0
  how_many-no [] = refl
  how_many-no (x ∷ xs) = how_many-no xs

  abbrev sum : (A → ℕ) → List A → ℕ
  sum g [] = 0
  sum g (x ∷ xs) = g x + sum g xs

  sum-no : (xs : List A) → sum (λ a. 0) xs ≡ 0
  sum-no [] = refl
  sum-no (x ∷ xs) = let h = sum-no xs in omega arith

  sum_ones : (g : A → ℕ) (xs : List A) → ((a : A) → Memᴰ a xs → g a ≡ 1) → sum g xs ≡ length xs
  sum_ones g [] h = refl
  sum_ones g (x ∷ xs) h = let e = h x (Memᴰ.head refl) in let r = sum_ones g xs (λ a t. h a (Memᴰ.tail t)) in omega arith

  sum_step : (r : A → Bool) (g : A → ℕ) (xs : List A) → sum (λ a. cond (r a) (suc (g a)) (g a)) xs ≡ how_many r xs + sum g xs
  sum_step r g [] = refl
  sum_step r g (x ∷ xs) = let e = sum_step r g xs in let h = step (r x) in omega arith
    where
      step : (t : Bool) → cond t (suc (g x)) (g x) + how_many r xs ≡ cond t (suc (how_many r xs)) (how_many r xs) + g x
      step true = omega arith
      step false = omega arith

-- where each member that passes is in one column, there are as many of them as the columns have together
counted-by-columns : {A B : Type 0} (p : A → Bool) (q : B → A → Bool) (vs : List B) (xs : List A) → ((a : A) → p a ≡ true → how_many (λ v. q v a) vs ≡ 1)
    → length (those p xs) ≡ sum (λ v. how_many (λ a. p a && q v a) xs) vs
counted-by-columns p q vs [] one = sym (sum-no vs)
counted-by-columns p q vs (x ∷ xs) one =
    let e = counted-by-columns p q vs xs one in
    let s = sum_step (λ v. p x && q v x) (λ v. how_many (λ a. p a && q v a) xs) vs in
    let h = row (p x) refl in omega arith
  where
    row : (t : Bool) → p x ≡ t → length (cond t (x ∷ those p xs) (those p xs)) ≡ how_many (λ v. p x && q v x) vs + length (those p xs)
    row true e = let h = how_many-same (λ v. p x && q v x) (λ v. q v x) vs (λ v u. rw e) ∙ one x e in omega arith
    row false e = let h = how_many-same (λ v. p x && q v x) (λ v. false) vs (λ v u. rw e) ∙ how_many-no vs in omega arith

-- a label of a key
module _ (A b : List Label) (l : Label) where
  pub of-key : has (key A b) l ≡ true → (has b l ≡ true) × (has A l ≡ true)
  of-key h = let (t, e) = of-those (has A) b (has-mem (key A b) l h) in (mem-has t, e)

  pub to-key : has b l ≡ true → has A l ≡ true → has (key A b) l ≡ true
  to-key h k = mem-has (to-those (has A) (has-mem b l h) k)

-- the chosen labels of a part of labels that rise
pub key-rises : (A : List Label) {b ls : List Label} → Sublistᴰ b ls → Rising 0 ls → Rising 0 (key A b)
key-rises A {b} p r = rising-sub 0 (Sublistᴰ.trans (sub-those (has A) b) p) r

-- the branches of a list whose key is k, and their labels, as `class` and `is_kept` have them of a formula's branches
module _ (A : List Label) (bs : List (List Label)) (k : List Label) where
  abbrev pub class_in : List (List Label)
  class_in = those (λ b. same_key (key A b) k) bs

  abbrev pub kept_in : Label → Bool
  kept_in l = any_of (λ b. has b l) class_in

  pub to-class : {b : List Label} → Memᴰ b bs → key A b ≡ k → Memᴰ b class_in
  to-class {b} t e = to-those (λ c. same_key (key A c) k) t (subst (λ z. same_key (key A b) z ≡ true) e (same_key-refl (key A b)))

  pub to-kept : (b : List Label) (l : Label) → Memᴰ b bs → key A b ≡ k → has b l ≡ true → kept_in l ≡ true
  to-kept b l t e = to-any (λ c. has c l) (to-class t e)

  pub of-kept : (l : Label) → kept_in l ≡ true → (b : List Label) × Memᴰ b bs × (key A b ≡ k) × (has b l ≡ true)
  of-kept l h =
      let (b, t, q) = of-any (λ b. has b l) class_in h in
      let (u, e) = of-those (λ c. same_key (key A c) k) bs t in (b, u, same_key-eq (key A b) k e, q)

module _ (#V : ℕ) (f : Formula) (A : List Label) (formed : WellFormed #V f) (homogeneous : Homogeneous f A) (minimal : MinimalCovering #V f A) where
  -- a chosen label has one variable
  pub variable-of : (l : Label) → has A l ≡ true → (w : Variable) × (w.0 < #V) × ((v : Variable) → assigns f v l ≡ alike v w)
  variable-of l h =
      let (c, u, e) = of-any (λ c. same l c.label) (candidates f) (homogeneous l h) in (
        c.variable,
        formed.assigned c u,
        λ v. same_answer (assigns f v l) (alike v c.variable)
            (λ k. let (d, s, q) = of-any (λ c. same l c.label && alike v c.variable) (candidates f) k in
            let z = known-candidate f formed.rising c d u s (sym (same-eq l c.label e) ∙ same-eq l d.label (and_left (same l d.label) _ q)) in
            subst (λ (a : Candidate). alike v a.variable ≡ true) (sym z) (and_right (same l d.label) _ q))
            (λ k. to-any (λ c. same l c.label && alike v c.variable) u (both (same l c.label) _ e k)),
      )

  -- every key has #V labels
  pub key-length : (b : List Label) → Memᴰ b (branches f) → length (key A b) ≡ #V
  key-length b t =
      counted-by-columns (has A) (assigns f) (variables #V) b one
      ∙ sum_ones (λ v. how_many (λ l. has A l && assigns f v l) b) (variables #V) (λ v s. minimal _ (b, t, v, in-variables #V v s, refl))
      ∙ length-variables #V
    where
      one : (l : Label) → has A l ≡ true → how_many (λ v. assigns f v l) (variables #V) ≡ 1
      one l h = let (w, k, e) = variable-of l h in how_many-same (λ v. assigns f v l) (λ v. alike v w) (variables #V) (λ v u. e v) ∙ variable-one #V w k

  -- a branch within the kept labels of a class is of that class
  pub within : (b c : List Label) → Memᴰ b (branches f) → Memᴰ c (branches f) → Part (has b) (is_kept f A (key A c)) → key A b ≡ key A c
  within b c t u inside =
      rising-ext 0 0 (key A b) (key A c) (key-rises A (branch-sub f b t) formed.rising) (key-rises A (branch-sub f c u) formed.rising) there back
    where
      there : Part (has (key A b)) (has (key A c))
      there l h =
          let (bl, al) = of-key A b l h in
          let (d, s, e, dl) = of-kept A (branches f) (key A c) l (inside l bl) in
          subst (λ k. has k l ≡ true) e (to-key A d l dl al)

      -- l is the only label of its variable on c, and b's label of that variable is on c too
      back : Part (has (key A c)) (has (key A b))
      back l h =
          let (cl, al) = of-key A c l h in
          let (v, k, e) = variable-of l al in
          let p : Label → Bool = λ i. has A i && assigns f v i in
          let (i, bi, q) = how_many-some p b (minimal _ (b, t, v, k, refl)) in
          let mine = to-key A b i (mem-has bi) (and_left (has A i) _ q) in
          let ci = (of-key A c i (there i mine)).0 in
          let one = how_many-one p c (minimal _ (c, u, v, k, refl)) i l (has-mem c i ci) q (has-mem c l cl) (both (has A l) _ al (e v ∙ alike_refl v)) in
          subst (λ j. has (key A b) j ≡ true) one mine

  -- each branch lies within exactly one transition
  pub one-transition : (b : List Label) → Memᴰ b (branches f)
      → (k : List Label) × Memᴰ k (keys f A) × Part (has b) (is_kept f A k)
      × ((j : List Label) → Memᴰ j (keys f A) → Part (has b) (is_kept f A j) → j ≡ k)
  one-transition b t = (key A b, (keys-are-listed f A).onto b t, λ l. to-kept A (branches f) (key A b) b l t refl, others)
    where
      others : (j : List Label) → Memᴰ j (keys f A) → Part (has b) (is_kept f A j) → j ≡ key A b
      others j u inside = let (c, s, e) = (keys-are-listed f A).from j u in e ∙ sym (within b c t s (subst (λ z. Part (has b) (is_kept f A z)) e inside))

pub keys-have-length : (#V : ℕ) (f : Formula) (A : List Label) → KeyLength #V f A
keys-have-length #V f A formed homogeneous minimal k t =
    let (b, u, e) = (keys-are-listed f A).from k t in ap length e ∙ key-length #V f A formed homogeneous minimal b u

-- Proposition 8 within a class: the branch found lies within the union of the selection, so within the class's kept labels
pub same_class : (m : Meaning) (xs : List ℕ) (f : Formula)
    → ((S : Label → Bool) → True m xs (slice_by S f) → (b : List Label) × Memᴰ b (branches f) × Part (has b) S × True m xs (slice_by (has b) f))
    → (#V : ℕ) → WellFormed #V f → (A : List Label) → Strategy #V f A → (c : List Label) → Memᴰ c (branches f)
    → (bs : List (List Label)) → ((b : List Label) → Memᴰ b bs → Memᴰ b (class f A (key A c))) → True m xs (slice_by (union m xs f bs) f)
    → (b : List Label) × Memᴰ b (class f A (key A c)) × True m xs (slice_by (has b) f)
same_class m xs f found #V formed A s c u bs selected h =
    let (b, t, inside, r) = found (union m xs f bs) h in
    (b, to-class A (branches f) (key A c) t (within #V f A formed s.homogeneous s.minimal b c t u λ l k. kept l (inside l k)), r)
  where
    kept : Part (union m xs f bs) (is_kept f A (key A c))
    kept l k = let (d, w, e) = of-any (λ b. has b l) bs k in to-any (λ b. has b l) (selected d w) e
