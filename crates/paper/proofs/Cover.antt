-- What a formula's branches have of one variable is what `cover_of` works out over the structure (specs/Statements.antt, 7).
-- For any test on labels, the cover of a list of branches by the labels that pass keeps units and joins, so it carries the
-- branches, read from the structure, to the cover read from it. The test is "chosen, and assigns v"; at a leaf it is
-- what the fold has there, as labels are unique.
use Prim.Native.Nat.{ℕ, zero, suc, ◌+◌}
use native.Mathlib.Omega.{arith}
use native.Mathlib.Nat.{zero-add}
use mathlib.Core.Path.{◌≡◌, refl, sym, ap, ◌∙◌}
use mathlib.Core.Bool.{Bool, true, false, not, cond, ◌&&◌, ◌||◌, and-false, or-false}
use mathlib.Core.Bool.{or-true, or_self, or_self_left, or_assoc, or_comm, and-or_distrib_left, and-or_distrib_right, or-and_distrib_left, or-and_distrib_right}
use mathlib.Core.List.Memᴰ
use mathlib.Core.List.{List, [], ◌∷◌, ◌++◌, map, append-nil, Sublistᴰ}
use lib.Dec.{eqb, ltb}
use borrow.Author.Tests.{ne_eqb, lt-ltb, not-false}
use Rattle.paper.specs.Lists.{any_of, how_many, pairs}
use Rattle.paper.specs.Formula.{Label, Variable, Candidate, same, alike, has, labels, labels_of, candidates, candidates_of, assigns, Rising}
use Rattle.paper.specs.Formula.{Formula, Formulas, FALSE, test, candidate, conjunction, disjunction, exists, IF, only, ◌⨾◌}
use Rattle.paper.specs.Branch.{branches}
use Rattle.paper.specs.Judgement.{variables}
use Rattle.paper.specs.Inside.Structure.Cover.{Cover, cover, leaf_cover, unit_cover, join_cover, cover_fold, cover_of}
use Rattle.paper.specs.Statements.{CountsSay}
use Rattle.paper.proofs.Bools.{or_right, and_left, not_so}
use Rattle.paper.proofs.Lists.{any_append, of-any, to-those, of-those, how_many-append, pairs-none}
use Rattle.paper.proofs.Labels.{same_refl, same-eq, has-head, mem-has, has_left, has_right}
use Rattle.paper.proofs.Labels.{sub-has, rising-above, rising-split, candidate-sub, candidates-sub}
use Rattle.paper.proofs.Folds.{branch_unit, branch_join, branch_fold, AtLeaves, AtLeavesOf, leaves_map, carried, branches-read}
use Rattle.paper.proofs.Variables.{to-variables}

-- laws of tests
not-or : (a b : Bool) → not (a || b) ≡ (not a && not b)
not-or true b = refl
not-or false b = refl

or-left-comm : (a b c : Bool) → (a || (b || c)) ≡ (b || (a || c))
or-left-comm true true c = refl
or-left-comm true false c = refl
or-left-comm false b c = refl

ruleset alternatives = (or_assoc, or_comm, or-left-comm, or_self, or_self_left, and-or_distrib_left, and-or_distrib_right)

-- a sum is at least one, or at least two
some-sum : (x y : ℕ) → not (eqb (x + y) 0) ≡ (not (eqb x 0) || not (eqb y 0))
some-sum zero y = rw zero-add
some-sum (suc x) y = rw (ne_eqb (suc x + y) 0 (λ e. omega arith), ne_eqb (suc x) 0 (λ e. omega arith))

more-sum : (x y : ℕ) → ltb 1 (x + y) ≡ ((ltb 1 x || ltb 1 y) || (not (eqb x 0) && not (eqb y 0)))
more-sum zero y = rw (zero-add, or-false)
more-sum (suc zero) zero = refl
more-sum (suc zero) (suc y) = rw (lt-ltb 1 (1 + suc y) (omega arith), ne_eqb (suc y) 0 (λ e. omega arith), or-true)
more-sum (suc (suc x)) y = rw (lt-ltb 1 (suc (suc x) + y) (omega arith), lt-ltb 1 (suc (suc x)) (omega arith))

covers : {l m a b e f t u : Bool} → l ≡ m → a ≡ b → e ≡ f → t ≡ u → cover l a e t ≡ cover m b f u
covers p q r s = cc

-- where there are branches, a conjunction distributes over the branches of either side
module _ (x y z : Cover) (p : x.live ≡ true) (q : y.live ≡ true) (r : z.live ≡ true) where
  from-left : join_cover false (join_cover true x y) (join_cover true x z) ≡ join_cover true x (join_cover false y z)
  from-left = rw (p, q, r) (covers refl (sym (or-and_distrib_left x.always y.always z.always)) (simp alternatives) (simp alternatives))

  from-right : join_cover false (join_cover true x z) (join_cover true y z) ≡ join_cover true (join_cover false x y) z
  from-right = rw (p, q, r) (covers refl (sym (or-and_distrib_right x.always y.always z.always)) (simp alternatives) (simp alternatives))

-- the cover of branches by the labels that pass a test
module _ (p : Label → Bool) where
  -- none on the branch does
  abbrev lacks : List Label → Bool
  lacks b = eqb (how_many p b) 0

  abbrev over : List (List Label) → Cover
  over bs = cover (any_of (λ b. true) bs) (not (any_of lacks bs)) (any_of (λ b. not (lacks b)) bs) (any_of (λ b. ltb 1 (how_many p b)) bs)

  -- of one branch
  abbrev one : List Label → Cover
  one b = cover true (not (lacks b)) (not (lacks b)) (ltb 1 (how_many p b))

  over-one : (b : List Label) → over (b ∷ []) ≡ one b
  over-one b = simp or-false

  one-append : (b c : List Label) → one (b ++ c) ≡ join_cover true (one b) (one c)
  one-append b c =
      let s = some-sum (how_many p b) (how_many p c) in
      rw (how_many-append p b c) (covers refl s s (more-sum (how_many p b) (how_many p c)))

  over-append : (bs cs : List (List Label)) → over (bs ++ cs) ≡ join_cover false (over bs) (over cs)
  over-append bs cs =
      covers (any_append (λ b. true) bs cs) (ap not (any_append lacks bs cs) ∙ not-or (any_of lacks bs) (any_of lacks cs))
      (any_append _ bs cs) (any_append _ bs cs)

  over-cons : (b : List Label) (bs : List (List Label)) → over (b ∷ bs) ≡ join_cover false (one b) (over bs)
  over-cons b bs = covers refl (not-or (lacks b) (any_of lacks bs)) refl refl

  over-front : (b : List Label) (cs : List (List Label)) → over (map (λ c. b ++ c) cs) ≡ join_cover true (one b) (over cs)
  over-front b [] = refl
  over-front b (c ∷ []) = over-one (b ++ c) ∙ one-append b c ∙ ap (join_cover true (one b)) (sym (over-one c))
  over-front b (c ∷ d ∷ cs) =
      cc (
        over-cons (b ++ c) (map (λ c. b ++ c) (d ∷ cs)),
        over-front b (d ∷ cs),
        one-append b c,
        from-left (one b) (one c) (over (d ∷ cs)) refl refl refl,
        over-cons c (d ∷ cs),
      )

  over-pairs : (bs cs : List (List Label)) → over (pairs bs cs) ≡ join_cover true (over bs) (over cs)
  over-pairs [] cs = refl
  over-pairs (b ∷ bs) [] = ap over (pairs-none (b ∷ bs))
  over-pairs (b ∷ []) (c ∷ cs) =
      ap over (append-nil (map (λ d. b ++ d) (c ∷ cs))) ∙ over-front b (c ∷ cs) ∙ ap (λ x. join_cover true x (over (c ∷ cs))) (sym (over-one b))
  over-pairs (b ∷ d ∷ bs) (c ∷ cs) =
      cc (
        over-append (map (λ e. b ++ e) (c ∷ cs)) (pairs (d ∷ bs) (c ∷ cs)),
        over-front b (c ∷ cs),
        over-pairs (d ∷ bs) (c ∷ cs),
        from-right (one b) (over (d ∷ bs)) (over (c ∷ cs)) refl refl refl,
        over-cons b (d ∷ bs),
      )

  over-leaf : (l : Label) → over ((l ∷ []) ∷ []) ≡ leaf_cover (p l)
  over-leaf l = go (p l)
    where
      go : (t : Bool) → cover true (not (eqb (cond t 1 0) 0 || false)) (not (eqb (cond t 1 0) 0) || false) (ltb 1 (cond t 1 0) || false) ≡ leaf_cover t
      go true = refl
      go false = refl

  over-unit : (c : Bool) → over (branch_unit c) ≡ unit_cover c
  over-unit true = refl
  over-unit false = refl

  over-join : (c : Bool) (bs cs : List (List Label)) → over (branch_join c bs cs) ≡ join_cover c (over bs) (over cs)
  over-join true bs cs = over-pairs bs cs
  over-join false bs cs = over-append bs cs

-- Where labels rise, a test that is "assigns v" on the labels of a formula is at each leaf what the leaf says.
module _ (v : Variable) (p : Label → Bool) where
  -- l is a candidate of v among cs
  abbrev assigned_by : List Candidate → Label → Bool
  assigned_by cs l = any_of (λ c. same l c.label && alike v c.variable) cs

  abbrev Agrees : List Label → List Candidate → Type 0
  Agrees ls cs = (l : Label) → has ls l ≡ true → p l ≡ assigned_by cs l

  -- what candidates assign is one of their labels
  assigned-inside : {ls : List Label} (cs : List Candidate) → Sublistᴰ (map (λ c. c.label) cs) ls → (l : Label) → assigned_by cs l ≡ true → has ls l ≡ true
  assigned-inside {ls} cs s l h =
      let (c, t, e) = of-any (λ c. same l c.label && alike v c.variable) cs h in
      sub-has l s (rw (same-eq l c.label (and_left _ _ e)) (mem-has (Memᴰ.map (λ c. c.label) t)))

  -- where labels rise over two lists, the candidates of neither assign a label of the other
  agrees-apart : (n : ℕ) (xs ys : List Label) (cs ds : List Candidate) → Rising n (xs ++ ys)
      → Sublistᴰ (map (λ c. c.label) cs) xs → Sublistᴰ (map (λ c. c.label) ds) ys → Agrees (xs ++ ys) (cs ++ ds)
      → (q : ℕ) × Rising n xs × Rising q ys × Agrees xs cs × Agrees ys ds
  agrees-apart n xs ys cs ds r s t k =
      let (q, le, rx, ry, below) = rising-split n xs ys r in
      let apart : (l : Label) → has xs l ≡ true → has ys l ≡ true → ⊥ = λ l h g. let a = below l h in let b = rising-above ys l ry g in omega arith in (
        q,
        rx,
        ry,
        λ l h. k l (has_left xs ys l h) ∙ any_append _ cs ds ∙ rw (not_so (assigned_by ds l) λ e. apart l h (assigned-inside ds t l e)) (or-false _),
        λ l h. k l (has_right xs ys l h) ∙ any_append _ cs ds ∙ rw (not_so (assigned_by cs l) λ e. apart l (assigned-inside cs s l e) h),
      )

  abbrev LeavesAgree : Formula → Type 0
  LeavesAgree = AtLeaves (λ l. p l ≡ false) (λ l. p l ≡ false) (λ l w. p l ≡ alike v w)

  abbrev LeavesOfAgree : Formulas → Type 0
  LeavesOfAgree = AtLeavesOf (λ l. p l ≡ false) (λ l. p l ≡ false) (λ l w. p l ≡ alike v w)

  mutual
    agrees-at-leaves : (n : ℕ) (f : Formula) → Rising n (labels f) → Agrees (labels f) (candidates f) → LeavesAgree f
    agrees-at-leaves n (FALSE l) r k = k l (has-head l [])
    agrees-at-leaves n (test s) r k = k s.label (has-head s.label [])
    agrees-at-leaves n (candidate l w s) r k = k l (has-head l (s.label ∷ [])) ∙ rw (same_refl l) (or-false (alike v w))
    agrees-at-leaves n (conjunction l fs) r k = agrees-at-leaves-of (suc l.0) fs r.1 (λ i h. k i (or_right (same i l) _ h))
    agrees-at-leaves n (disjunction l fs) r k = agrees-at-leaves-of (suc l.0) fs r.1 (λ i h. k i (or_right (same i l) _ h))
    agrees-at-leaves n (exists l s f) r k =
        agrees-at-leaves (suc s.label.0) f r.1.1 (λ i h. k i (or_right (same i l) _ (or_right (same i s.label) _ h)))
    agrees-at-leaves n (IF l s f g) r k =
        let under : Agrees (labels f ++ labels g) (candidates f ++ candidates g) = λ i h. k i (or_right (same i l) _ (or_right (same i s.label) _ h)) in
        let m = suc s.label.0 in
        let (q, rf, rg, kf, kg) = agrees-apart m (labels f) (labels g) (candidates f) (candidates g) r.1.1 (candidate-sub f) (candidate-sub g) under in
        (agrees-at-leaves m f rf kf, agrees-at-leaves q g rg kg)

    agrees-at-leaves-of : (n : ℕ) (fs : Formulas) → Rising n (labels_of fs) → Agrees (labels_of fs) (candidates_of fs) → LeavesOfAgree fs
    agrees-at-leaves-of n (only f) r k = agrees-at-leaves n f r k
    agrees-at-leaves-of n (f ⨾ fs) r k =
        let (q, rf, rs, kf, ks) = agrees-apart n (labels f) (labels_of fs) (candidates f) (candidates_of fs) r (candidate-sub f) (candidates-sub fs) k in
        (agrees-at-leaves n f rf kf, agrees-at-leaves-of q fs rs ks)

-- the cover by "chosen, and assigns v" is the cover read from the structure
module _ (f : Formula) (A : List Label) (v : Variable) where
  abbrev chosen : Label → Bool
  chosen l = has A l && assigns f v l

  cover-of-branches : Rising 0 (labels f) → over chosen (branches f) ≡ cover_of A v f
  cover-of-branches r =
      ap (over chosen) (branches-read f)
      ∙ carried branch_fold (cover_fold A v) (over chosen) (over-unit chosen) (over-join chosen) f
      (leaves_map none none (λ l w e. over-leaf chosen l ∙ ap (λ t. leaf_cover (has A l && t)) e) f (agrees-at-leaves v (assigns f v) 0 f r (λ l h. refl)))
    where
      none : (l : Label) → assigns f v l ≡ false → over chosen ((l ∷ []) ∷ []) ≡ leaf_cover false
      none l e = over-leaf chosen l ∙ ap leaf_cover (ap (λ t. has A l && t) e ∙ and-false (has A l))

pub counts-say : (#V : ℕ) (f : Formula) (A : List Label) → CountsSay #V f A
counts-say #V f A w v below =
    let covered = cover-of-branches f A v w.rising in
    let always = ap (λ c. c.always) covered in
    let twice = ap (λ c. c.twice) covered in
    let member = to-variables #V v below in
    record {
      missed = (λ t. sym always ∙ ap not (of-those _ (variables #V) t).1, λ h. to-those _ member (not-false _ (always ∙ h)));
      doubled = (λ t. sym twice ∙ (of-those _ (variables #V) t).1, λ h. to-those _ member (twice ∙ h));
    }
