-- Past an index, into the next read, or out to the guard around: the spot after, in each case by what the net notes.
use native.Mathlib.Omega.{arith}
use mathlib.Core.Path.{ap}
use Rattle.paper.specs.declared.Label.{Label}
use Rattle.fingers.proofs.GoesOn.{after-index, after_read, after-star}
use Rattle.fingers.proofs.Following.onward.Goals as goal

pub returns-then-next-size : goal.returns-then-next-size
returns-then-next-size c =
    let R = c.args.self.now.ready in
    let P = c.requires.0 in
    let h = c.requires.1 in
    rw c.next_of.ensures (after-index _ _ _ _ _ R _ _ _ P h c.if-next-size.true)

pub returns-then-read-stop_of : goal.returns-then-read-stop_of
returns-then-read-stop_of c =
    let R = c.args.self.now.ready in
    let P = c.requires.0 in
    let h = c.requires.1 in
    rw c.first_with.ensures (after_read _ _ _ _ _ R _ _ _ P h c.if-next-size.false (omega (arith, c.if-read-stop_of.true, c.stop_of.ensures)))

pub from_of-requires : goal.from_of-requires
from_of-requires c =
    let R = c.args.self.now.ready in
    let P = c.requires.0 in
    let h = c.requires.1 in
    let z = (after-star _ _ _ _ _ R _ _ _ P h c.if-next-size.false (omega (arith, c.if-read-stop_of.false, c.stop_of.ensures))).spot.star in
    omega (arith, ap (λ (l : Label). l.0) c.guard_of-guard.ensures, R.choice.tree.nested.room)

pub returns : goal.returns
returns c =
    let R = c.args.self.now.ready in
    let P = c.requires.0 in
    let h = c.requires.1 in
    let g = ap (λ (l : Label). l.0) c.guard_of-guard.ensures in
    rw (c.from_of.ensures, g) (after-star _ _ _ _ _ R _ _ _ P h c.if-next-size.false (omega (arith, c.if-read-stop_of.false, c.stop_of.ensures)))
