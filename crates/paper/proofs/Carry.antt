-- Carrying out the chosen assignments of a branch (specs/Statements.antt, 6). On a branch each variable has one chosen
-- label. In an order that respects "before" the chosen label of whatever an assignment reads comes earlier, so it is done
-- when the assignment's turn comes; and as no label comes twice, no variable is set twice.
use Prim.Native.Nat.{ℕ, ◌<◌}
use mathlib.Core.Path.{◌≡◌, refl, sym, subst, ap, ◌∙◌}
use mathlib.Core.Bool.{Bool, true, false, cond, ◌&&◌, ◌||◌, or_comm, or_assoc, true≢false, false≢true}
use mathlib.Core.List.{List, [], ◌∷◌, Memᴰ}
use Rattle.paper.specs.Lists.{any_of, those}
use Rattle.paper.specs.Formula.{Label, Variable, same, alike, has, Formula, candidates, assigns, WellFormed}
use Rattle.paper.specs.Branch.{branches}
use Rattle.paper.specs.BoolForm.{Part}
use Rattle.paper.specs.Frozen.{frozen}
use Rattle.paper.specs.Before.{depends, share_branch, before}
use Rattle.paper.specs.Order.{Respects, Once, OrderOf}
use Rattle.paper.specs.Strategy.{MinimalCovering}
use Rattle.paper.specs.Transition.{key}
use Rattle.paper.specs.Carry.{Carried, unset}
use Rattle.paper.specs.Statements.{CarriedOut}
use Rattle.paper.proofs.Bools.{or_left, or_right, or_cases, both, and_left, and_right, not_so, same_answer, pick}
use Rattle.paper.proofs.Lists.{to-any, of-any, those-all, how_many-some, how_many-one}
use Rattle.paper.proofs.Frozen.{frozen-range, assigned-range}
use Rattle.paper.proofs.Labels.{same-eq, alike-eq, has-mem, mem-has, has-head, has-those, those-has}

-- i before j, for two labels of K on one branch
comes-before : (f : Formula) (K b : List Label) (i j : Label) (v : Variable) → Memᴰ b (branches f)
    → has K i ≡ true → has K j ≡ true → has b i ≡ true → has b j ≡ true → assigns f v i ≡ true → frozen f j v ≡ true → before f K i j ≡ true
comes-before f K b i j v t ki kj bi bj sets reads = both (has K i) _ ki (both (has K j) _ kj (both (share_branch f i j) _ together on))
  where
    together : share_branch f i j ≡ true
    together = to-any (λ c. has c i && has c j) t (both (has b i) (has b j) bi bj)

    on : depends f i j ≡ true
    on =
        let (c, u, h) = of-any (λ c. same i c.label && alike v c.variable) (candidates f) sets in
        let e = and_left (same i c.label) _ h in
        let q = alike-eq v c.variable (and_right (same i c.label) _ h) in
        to-any (λ c. same i c.label && frozen f j c.variable) u (both (same i c.label) _ e (subst (λ w. frozen f j w ≡ true) q reads))

module _ (#V : ℕ) (f : Formula) (A b : List Label) (t : Memᴰ b (branches f)) (cover : MinimalCovering #V f A) where
  -- the chosen label of a variable on a branch
  pub chosen : (v : Variable) → v.0 < #V → (i : Label) × (has b i ≡ true) × (has A i ≡ true) × (assigns f v i ≡ true)
  chosen v h =
      let (i, u, q) = how_many-some (λ l. has A l && assigns f v l) b (cover _ (b, t, v, h, refl)) in
      (i, mem-has u, and_left (has A i) _ q, and_right (has A i) _ q)

  pub only-chosen : (v : Variable) → v.0 < #V → (i j : Label) → has b i ≡ true → has A i ≡ true → assigns f v i ≡ true
      → has b j ≡ true → has A j ≡ true → assigns f v j ≡ true → i ≡ j
  only-chosen v h i j bi ai si bj aj sj =
      how_many-one (λ l. has A l && assigns f v l) b (cover _ (b, t, v, h, refl)) i j
      (has-mem b i bi) (both (has A i) _ ai si) (has-mem b j bj) (both (has A j) _ aj sj)

-- a label of b among those done assigns v
abbrev set_by : Formula → List Label → List Label → Variable → Bool
set_by f b done v = any_of (λ i. has b i && assigns f v i) done

-- Where the carrying out of an order of K stands, for the branch b: the labels done, those to come and the variables set.
record Stands (f : Formula) (K b done rest : List Label) (set : Variable → Bool) : Type 0 where
  respects : Respects (before f K) done rest
  once : Once rest
  fresh : (l : Label) → has rest l ≡ true → has done l ≡ true → ⊥
  parts : (l : Label) → has K l ≡ (has done l || has rest l)
  set_is : (v : Variable) → set v ≡ set_by f b done v

-- the step over one label
stands-next : (f : Formula) (K b done : List Label) (j : Label) (js : List Label) (set after : Variable → Bool) → Stands f K b done (j ∷ js) set
    → ((v : Variable) → after v ≡ set_by f b (j ∷ done) v) → Stands f K b (j ∷ done) js after
stands-next f K b done j js set after s is = record {
  respects = s.respects.1;
  once = s.once.1;
  fresh = λ l h k. pick (or_cases (same l j) (has done l) k)
      (λ e. true≢false (sym (subst (λ i. has js i ≡ true) (same-eq l j e) h) ∙ s.once.0)) (s.fresh l (or_right (same l j) (has js l) h));
  parts = λ l. s.parts l ∙ sym (or_assoc (has done l) (same l j) (has js l)) ∙ ap (λ t. t || has js l) (or_comm (has done l) (same l j));
  set_is = is;
}

set-by : {f : Formula} {K b done rest : List Label} {set : Variable → Bool} → Stands f K b done rest set
    → (v : Variable) (i : Label) → has done i ≡ true → has b i ≡ true → assigns f v i ≡ true → set v ≡ true
set-by {f} {b = b} {done = done} s v i d h k = s.set_is v ∙ to-any (λ i. has b i && assigns f v i) (has-mem done i d) (both (has b i) _ h k)

-- a well_formed formula with a minimal covering
module _ (#V : ℕ) (f : Formula) (A : List Label) (wf : WellFormed #V f) (cover : MinimalCovering #V f A) where
  -- K holds the chosen labels of the branch b, and only chosen labels: it is A, for the one order of the formula, or the
  -- key of b, for the order of its own transition
  module _ (b : List Label) (t : Memᴰ b (branches f)) (K : List Label) (within : Part (has K) (has A))
      (enough : (l : Label) → has b l ≡ true → has A l ≡ true → has K l ≡ true) where
    carry : (done rest : List Label) (set : Variable → Bool) → Stands f K b done rest set → Carried #V f set (those (has b) rest)
    carry done [] set s = λ v h.
        let (i, bi, ai, si) = chosen #V f A b t cover v h in
        let d : has done i ≡ true = or_comm false (has done i) ∙ sym (s.parts i) ∙ enough i bi ai in
        set-by s v i d bi si
    carry done (j ∷ js) set s = turn (has b j) refl (carry (j ∷ done) js)
      where
        turn : (q : Bool) → has b j ≡ q → ((after : Variable → Bool) → Stands f K b (j ∷ done) js after → Carried #V f after (those (has b) js))
            → Carried #V f set (cond q (j ∷ those (has b) js) (those (has b) js))
        turn true e more = (reads-set, sets-once, more (λ v. set v || assigns f v j) (stands-next f K b done j js set _ s one_more))
          where
            one_more : (v : Variable) → (set v || assigns f v j) ≡ set_by f b (j ∷ done) v
            one_more v = rw (e, s.set_is v) (or_comm (set_by f b done v) (assigns f v j))

            kj : has K j ≡ true
            kj = s.parts j ∙ or_right (has done j) _ (has-head j js)

            reads-set : (v : Variable) → frozen f j v ≡ true → set v ≡ true
            reads-set v h =
                let (i, bi, ai, si) = chosen #V f A b t cover v (frozen-range wf j v h) in
                set-by s v i (s.respects.0 i (comes-before f K b i j v t (enough i bi ai) kj bi e si h)) bi si

            sets-once : (v : Variable) → assigns f v j ≡ true → set v ≡ false
            sets-once v k = not_so (set v) λ h.
                let (i, d, q) = of-any (λ i. has b i && assigns f v i) done (sym (s.set_is v) ∙ h) in
                let bi = and_left (has b i) _ q in
                let si = and_right (has b i) _ q in
                let ai = within i (s.parts i ∙ or_left (has done i) _ (mem-has d)) in
                let z = only-chosen #V f A b t cover v (assigned-range wf v j k) i j bi ai si e (within j kj) k in
                s.fresh j (has-head j js) (subst (λ l. has done l ≡ true) z (mem-has d))
        turn false e more = more set (stands-next f K b done j js set set s (λ v. rw e (s.set_is v)))

    -- the labels of b, in any order of K
    carried : (o : List Label) → OrderOf (before f K) K o → Carried #V f unset (those (has b) o)
    carried o r = carry [] o unset record {
      respects = r.respects;
      once = r.once;
      fresh = λ l h k. false≢true k;
      parts = λ l. same_answer (has K l) (has o l) (r.onto l) (r.from l);
      set_is = λ v. refl;
    }

  -- an order for the transition of the branch alone
  pub carried-by-key : (b : List Label) → Memᴰ b (branches f) → (o : List Label) → OrderOf (before f (key A b)) (key A b) o → Carried #V f unset o
  carried-by-key b t o r =
      subst (Carried #V f unset) (those-all (has b) o (λ l u. (those-has (has A) b l (r.from l (mem-has u))).0))
      (carried b t (key A b) (λ l h. (those-has (has A) b l h).1) (has-those (has A) b) o r)

-- one order for the whole formula
pub carried_out : (#V : ℕ) (f : Formula) (A : List Label) → CarriedOut #V f A
carried_out #V f A wf cover o r b t = carried #V f A wf cover b t A (λ l h. h) (λ l h k. k) o r
