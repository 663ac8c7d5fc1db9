-- The loop's invariant: what was passed from the finger on and is open is not before j, and what is found from the finger on is found
-- from the spot on. The measure is how far the spot is from the end.
use native.Mathlib.Omega.{arith}
use mathlib.Core.Path.{sym, ◌∙◌}
use Rattle.fingers.specs.Inside.Spots.{finger_of}
use Rattle.fingers.proofs.Seeking.{sought-none, sought-more, sought-hit, sought-out}
use Rattle.fingers.proofs.Following.seek.Goals as goal

pub spot_of-p-requires : goal.spot_of-p-requires
unfolding finger_of
spot_of-p-requires c =
    let R = c.args.self.now.ready in
    let z = c.requires.finger.spot.star in
    omega (arith, R.choice.tree.nested.few)

pub loop-p-init : goal.loop-p-init
unfolding finger_of
loop-p-init c =
    let e = c.spot_of-p.ensures in
    (rw (e.0, e.1, e.2) (sought-none _ _ _ _ _ _ _ _ _ c.requires.finger), λ x l h. absurd (omega arith))

pub returns-then-look : goal.returns-then-look
returns-then-look c =
    let R = c.args.self.now.ready in
    let small : _ = R.choice.few in
    rw c.from.ensures (sought-hit _ _ _ _ _ _ _ _ _ _ (omega arith) c.loop-p-test.true c.loop-p.invariant.0 (sym c.look.ensures.says ∙ c.if-look.true))

pub loop-p-preserved : goal.loop-p-preserved
loop-p-preserved c =
    let R = c.args.self.now.ready in
    let w = c.look.ensures in
    (sought-more _ _ _ _ _ _ _ _ _ _ R _ _ _ _ _ _ c.loop-p-test.true c.loop-p.invariant.0 (sym w.says ∙ c.if-look.false) c.onward-p.ensures, w.apart)

pub returns : goal.returns
returns c = sought-out _ _ _ _ _ _ _ _ _ _ (omega (arith, c.loop-p-test.false)) c.loop-p.invariant.0
