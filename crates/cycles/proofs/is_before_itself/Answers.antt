-- The loop's invariant: j lies from the first read of the star on exactly if it is before itself. The measure is the star.
use native.Mathlib.Omega.{arith}
use mathlib.Core.Path.{sym, ap, ◌∙◌}
use Rattle.paper.specs.declared.Label.{Label}
use Rattle.cycles.proofs.Itself.{below_none, below-read, outer-spot, outer-lower, below-outer, own-spot, below-own}
use Rattle.cycles.proofs.is_before_itself.Goals as goal

pub loop-star-init : goal.loop-star-init
loop-star-init c =
    let R = c.args.g.now.ready in
    let a = c.requires in
    (own-spot _ _ _ _ _ _ R a, below-own _ _ _ _ _ _ R a)

pub returns-then-is_read : goal.returns-then-is_read
returns-then-is_read c =
    let v = c.loop-star.invariant in
    let e = rw (c.from.ensures ∙ c.from_of.ensures, c.stop_of.ensures, c.arg_of.ensures) at c.is_read.ensures in
    sym (sym v.1 ∙ below-read _ _ _ _ _ _ c.args.g.now.ready _ v.0 c.loop-star-test.true (sym e ∙ c.if-is_read.true))

pub loop-star-smaller : goal.loop-star-smaller
loop-star-smaller c =
    let P = c.loop-star.invariant.0 in
    let g = ap (λ (l : Label). l.0) c.guard_of-star.ensures in
    omega (arith, outer-lower _ _ _ _ _ c.args.g.now.ready _ P c.loop-star-test.true)

pub loop-star-preserved : goal.loop-star-preserved
loop-star-preserved c =
    let R = c.args.g.now.ready in
    let v = c.loop-star.invariant in
    let t = c.loop-star-test.true in
    let g = ap (λ (l : Label). l.0) c.guard_of-star.ensures in
    let e = rw (c.from.ensures ∙ c.from_of.ensures, c.stop_of.ensures, c.arg_of.ensures) at c.is_read.ensures in
    (rw g (outer-spot _ _ _ _ _ R _ v.0 t), rw g (below-outer _ _ _ _ _ _ R _ v.0 t (sym e ∙ c.if-is_read.false) c.requires ∙ v.1))

pub returns : goal.returns
returns c = sym (sym c.loop-star.invariant.1 ∙ below_none _ _ _ _ _ c.loop-star-test.false)
