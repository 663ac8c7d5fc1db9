-- The loop's invariant: the fingers of the indices below j are at their starts, and the words from j on are as they were.
use native.Mathlib.Omega.{arith}
use Rattle.fingers.specs.Inside.Spots.{start_of}
use Rattle.fingers.proofs.Seeking.{start-more}
use Rattle.fingers.proofs.start.Goals as goal

pub loop-j-preserved : goal.loop-j-preserved
unfolding start_of
loop-j-preserved c =
    let few = c.args.c.now.made.few in
    let m = rw c.from_of.ensures at c.from.ensures in
    start-more _ _ _ _ _ _ (omega arith) m c.loop-j.invariant
