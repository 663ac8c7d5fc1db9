-- Each turn gives the part that comes next to the writing call; the number of pieces left falls.
use Prim.Native.Nat.{◌<◌}
use native.Mathlib.Omega.{arith}
use mathlib.Core.Path.{refl, sym, ◌∙◌}
use borrow.Author.Rules.{rules}
use Rattle.lister.specs.Inside.Steps.{pieces}
use Rattle.lister.specs.Inside.Whole.{judged_in}
use Rattle.lister.proofs.Written.{prepared, writing_begins, length-there, goes_on, next-part, writing-goes-on}
use Rattle.lister.proofs.Written.{writing-stops, writing-ends}
use Rattle.lister.proofs.writing.write_listing.Goals as goal

pub loop-next-init : goal.loop-next-init
loop-next-init g c = writing_begins c.nothing_yet-written.ensures (search rules)

pub put_part-after-requires : goal.put_part-after-requires
put_part-after-requires g c =
    let below : c.loop-next.next < pieces (judged_in c.args.listed) = omega (arith, c.loop-next-test.true, c.pieces_of-count.ensures) in
    (below, (refl, c.loop-next.invariant.room))

pub slice_bounds-text-end : goal.slice_bounds-text-end
slice_bounds-text-end g c =
    let below : c.loop-next.next < pieces (judged_in c.args.listed) = omega (arith, c.loop-next-test.true, c.pieces_of-count.ensures) in
    let same = sym c.put_part-after.ensures.puts.same in
    length-there (prepared c.args.listed c.requires) c.put_part-after.ensures refl c.loop-next.invariant below (search rules)

pub write_next-written-requires : goal.write_next-written-requires
write_next-written-requires g c =
    let below : c.loop-next.next < pieces (judged_in c.args.listed) = omega (arith, c.loop-next-test.true, c.pieces_of-count.ensures) in
    let same = sym c.put_part-after.ensures.puts.same in
    next-part (prepared c.args.listed c.requires) c.put_part-after.ensures refl c.loop-next.invariant below (search rules)

pub returns-then-not-is_whole : goal.returns-then-not-is_whole
returns-then-not-is_whole g c =
    writing-stops (prepared c.args.listed c.requires) c.loop-next.invariant c.write_next-written.ensures (sym c.is_whole.ensures ∙ c.if-not-is_whole.true)

pub loop-next-smaller : goal.loop-next-smaller
loop-next-smaller g c =
    let below : c.loop-next.next < pieces (judged_in c.args.listed) = omega (arith, c.loop-next-test.true, c.pieces_of-count.ensures) in
    let on = goes_on (prepared c.args.listed c.requires) c.put_part-after.ensures refl c.loop-next.invariant below in
    omega (arith, c.pieces_of-count.ensures)

pub loop-next-preserved : goal.loop-next-preserved
loop-next-preserved g c =
    let below : c.loop-next.next < pieces (judged_in c.args.listed) = omega (arith, c.loop-next-test.true, c.pieces_of-count.ensures) in
    let same = sym c.put_part-after.ensures.puts.same in
    writing-goes-on (prepared c.args.listed c.requires) c.put_part-after.ensures refl c.loop-next.invariant below (search rules) c.write_next-written.ensures
    (sym c.is_whole.ensures ∙ c.if-not-is_whole.false)

pub returns : goal.returns
returns g c = writing-ends (prepared c.args.listed c.requires) c.loop-next.invariant (omega (arith, c.loop-next-test.false, c.pieces_of-count.ensures))
