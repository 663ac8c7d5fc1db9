-- `kept_fields` goes through the bytes: the fields of the kept ones among the first i positions are in the buffer, and a turn
-- puts the next position where it is kept.
use native.Mathlib.Omega.{arith}
use mathlib.Core.Path.{refl}
use Rattle.marks.specs.Marks.{positions_from, positions}
use Rattle.listing.specs.Text.{fields}
use Rattle.listing.proofs.Texts.{positions-next}
use Rattle.listing.proofs.Pieces.{putting-starts, putting-goes-on}
use Rattle.listing.proofs.Pen.kept_fields.Goals as goal

pub loop-i-init : goal.loop-i-init
unfolding fields positions_from positions
loop-i-init c = putting-starts refl (omega arith)

pub loop-i-preserved : goal.loop-i-preserved
loop-i-preserved c =
    let p = c.position.ensures in
    let more = c.loop-i-test.true in
    putting-goes-on c.loop-i.invariant more (positions-next _ _ more) p.put p.upper_bound
