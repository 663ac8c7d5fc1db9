-- The loop's invariant: j lies from the first read of the star on exactly if it is before itself. The measure is the star.
use mathlib.Core.Path.{◌≡◌}
use lib.ListN.{length}
use Rattle.rows.specs.Rows.{from_of}
use Rattle.net.specs.Inside.Prior.{prior}
use Rattle.fingers.specs.Inside.Spots.{IsSpot}
use Rattle.cycles.proofs.Itself.{below}
use Rattle.cycles.proofs.is_before_itself.Given as goal

abbrev pub invariant-loop-star : goal.invariant-loop-star
invariant-loop-star l =
    IsSpot l.g.choice.rows.now l.g.choice.chosen.now l.g.choice.n l.star.0 (from_of l.g.choice.rows.now l.star.0) (length l.g.choice.chosen.now)
    × (below l.g.choice.rows.now l.g.reads.now l.g.choice.chosen.now l.j l.star.0 ≡ prior l.g.choice.rows.now l.g.reads.now l.g.choice.chosen.now l.j l.j)

abbrev pub decreases-loop-star : goal.decreases-loop-star
decreases-loop-star l = l.star.0
