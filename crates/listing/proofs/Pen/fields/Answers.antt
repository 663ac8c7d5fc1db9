-- `fields` puts the labels one by one: the fields of those passed are in the buffer, and a turn puts one more.
use native.Mathlib.Omega.{arith}
use borrow.Author.Rules.{rules}
use mathlib.Core.Path.{refl}
use Rattle.listing.specs.Text.{fields}
use Rattle.listing.proofs.Decimals.{five_digits}
use Rattle.listing.proofs.Texts.{fields-next}
use Rattle.listing.proofs.Pieces.{putting-starts, putting-goes-on}
use Rattle.listing.proofs.Pen.fields.Goals as goal

pub loop-label-init : goal.loop-label-init
unfolding fields
loop-label-init c = putting-starts refl (omega arith)

pub field-requires : goal.field-requires
field-requires c =
    let i = c.loop-label.invariant in
    omega (arith, i.room, i.puts.as_long, c.loop-label-test.true, five_digits c.from.result (search rules))

pub loop-label-preserved : goal.loop-label-preserved
loop-label-preserved c =
    let p = c.field.ensures in
    let more = c.loop-label-test.true in
    putting-goes-on c.loop-label.invariant more (fields-next _ _ more) (rw c.from.ensures at p.put) (p.label (search rules))
