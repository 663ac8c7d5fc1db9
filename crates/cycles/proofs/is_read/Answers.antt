-- A read is v if one of the reads between is.
use Prim.Native.Nat.{◌-◌}
use mathlib.Core.Path.{◌∙◌}
use lib.ListN.{take, drop}
use Rattle.fingers.specs.Inside.Spots.{reads_any}
use Rattle.cycles.proofs.Loops.{some-is}
use Rattle.cycles.proofs.is_read.Goals as goal

pub returns : goal.returns
unfolding reads_any
returns c = let a = c.args in c.contains.ensures.value ∙ some-is a.v.0 (take (a.to - a.from) (drop a.from a.reads.now))
