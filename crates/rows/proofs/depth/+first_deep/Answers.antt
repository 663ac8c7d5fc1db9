-- `depth::first_deep` meets its contract. The measure of the recursion is the depth left, that of the loop what is left of the
-- row's subtree; the loop's invariant is `Passed`. Assumes nothing.
use Prim.Native.Nat.{ℕ, ◌+◌}
use native.Mathlib.Omega.{arith}
use mathlib.Core.Path.{◌≡◌, refl, subst, ap, ◌∙◌}
use mathlib.Core.List.{List}
use Rattle.paper.specs.declared.Label.{Label}
use Rattle.paper.specs.Formula.{ℓ}
use Rattle.rows.proofs.Depths.{Passed, all-passed, too-deep, passed_none, AtChild, child-within, child-rises, child-depth, found_inside, passed-more}
use Rattle.rows.proofs.depth.+first_deep.Goals.{In-loop-k}
use Rattle.rows.proofs.depth.+first_deep.Goals as goal

-- the label's number
number : {l : Label} {i : ℕ} → l ≡ ℓ i → l.0 ≡ i
number e = ap (λ (l : Label). l.0) e

-- the parent is known by the row after it
of-parent : {rows : List ℕ} {i at k : ℕ} → i + 1 ≡ at + 1 → Passed rows i k → Passed rows at k
of-parent {rows} {i} {at} {k} e passed = subst (λ (p : ℕ). Passed rows p k) (omega arith) passed

at-child : (t : ℕ) (c : In-loop-k t) → AtChild c.args.rows.now c.args.n c.args.at.0 c.loop-k.k.0
at-child t c = record {
  nested = c.requires.0;
  here = c.requires.1;
  inside = omega (arith, number c.end_of-end.ensures, c.loop-k-test.true);
  passed = c.loop-k.invariant c.args.at.0 refl;
}

pub returns-then-left-eq0 : goal.returns-then-left-eq0
returns-then-left-eq0 t c =
    let s = c in
    too-deep s.args.rows.now s.requires.0 s.args.at.0 s.requires.1 (omega (arith, s.requires.2, c.if-left-eq0.true))

pub end_of-end-requires : goal.end_of-end-requires
end_of-end-requires t c = let s = c in omega (arith, s.requires.0.room, s.requires.1)

pub overflow_add-k : goal.overflow_add-k
overflow_add-k t c = let s = c in omega (arith, s.requires.0.few, s.requires.1)

pub loop-k-init : goal.loop-k-init
loop-k-init t c at e =
    let s = c in
    of-parent e (passed_none s.args.rows.now s.requires.0 s.args.at.0 s.requires.1 (omega (arith, s.requires.2, c.if-left-eq0.false)))

pub end_of-stop-requires : goal.end_of-stop-requires
end_of-stop-requires t c =
    let s = c in
    omega (arith, s.requires.0.room, child-within (at-child t (goal.at.end_of-stop-requires t c).In-loop-k))

pub overflow_sub-left : goal.overflow_sub-left
overflow_sub-left t c = omega (arith, c.if-left-eq0.false)

pub first_deep-deep-requires : goal.first_deep-deep-requires
first_deep-deep-requires t c =
    let s = c in
    let some = c.if-left-eq0.false in
    let child = at-child t (goal.at.first_deep-deep-requires t c).In-loop-k in
    (omega (arith, s.requires.0, some), (s.requires.0, child-within child, omega (arith, s.requires.2, some, child-depth child)))

pub returns-then-deep-stop : goal.returns-then-deep-stop
returns-then-deep-stop t c =
    let deep = c.first_deep-deep.ensures in
    let stop = number c.end_of-stop.ensures in
    deep ∙ found_inside (at-child t (goal.at.returns-then-deep-stop t c).In-loop-k) (omega (arith, deep, stop, c.if-deep-stop.true))

pub loop-k-smaller : goal.loop-k-smaller
loop-k-smaller t c =
    let stop = number c.end_of-stop.ensures in
    omega (arith, stop, child-rises (at-child t (goal.at.loop-k-smaller t c).In-loop-k), c.loop-k-test.true)

pub loop-k-preserved : goal.loop-k-preserved
loop-k-preserved t c at e =
    let deep = c.first_deep-deep.ensures in
    let stop = number c.end_of-stop.ensures in
    of-parent e (rw stop (passed-more (at-child t (goal.at.loop-k-preserved t c).In-loop-k) (omega (arith, deep, stop, c.if-deep-stop.false))))

pub returns : goal.returns
returns t c =
    let s = c in
    let end = number c.end_of-end.ensures in
    end ∙ all-passed s.args.rows.now (omega (arith, end, c.loop-k-test.false)) (c.loop-k.invariant s.args.at.0 refl)
