-- A root that is not new is walked already. The loop's invariant: the path and `best` are as they should be, and no mark went back.
-- The measure is how far the walk has to go.
use Rattle.cycles.proofs.Steps.{explore-path, explore-best, explore-end, explore-not}
use Rattle.cycles.proofs.Path.explore.Goals as goal

pub returns-then-self-root-ne0 : goal.returns-then-self-root-ne0
returns-then-self-root-ne0 c =
    let a = c.requires in
    explore-not _ _ _ _ _ _ a.1 a.0 _ a.2 c.if-self-root-ne0.true

pub loop-w-init : goal.loop-w-init
loop-w-init c =
    let a = c.requires in
    (explore-path _ _ _ _ _ _ a.1 a.0 c.if-self-root-ne0.false, explore-best _ _ _ _ _ _ a.1 a.0 _ a.2, λ i hi e. e)

pub returns : goal.returns
returns c =
    let a = c.requires in
    let v = c.loop-w.invariant in
    explore-end _ _ _ _ _ _ a.1 a.0 _ _ _ _ _ _ _ _ v.0 v.1 v.2 c.loop-w-test.false
