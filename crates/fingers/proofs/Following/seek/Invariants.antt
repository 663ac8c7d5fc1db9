-- The loop's invariant: what was passed from the finger on and is open is not before j, and what is found from the finger on is found
-- from the spot on. The measure is how far the spot is from the end.
use Prim.Native.Nat.{◌/◌, ◌%◌}
use Rattle.fingers.specs.Inside.Graph.{outside}
use Rattle.fingers.specs.Inside.Spots.{ahead, Apart, Sought}
use Rattle.fingers.proofs.Following.seek.Given as goal

abbrev pub invariant-loop-p : goal.invariant-loop-p
invariant-loop-p l =
    let c = l.self.choice in
    Sought c.rows.now l.self.reads.now c.chosen.now c.n (outside l.mark l.b) l.j (l.finger / 4294967296) (l.finger / 65536 % 65536) (l.finger % 65536)
    l.p.star.0 l.p.read l.p.next
    × Apart c.rows.now c.chosen.now l.j l.known.from.0 l.known.to.0

abbrev pub decreases-loop-p : goal.decreases-loop-p
decreases-loop-p l = ahead l.self.choice.rows.now l.self.choice.chosen.now l.p.star.0 l.p.read l.p.next
