-- `marks_of` gives the marks of the chosen labels. The loop's invariant: the marks are those of the labels passed.
use lib.ListN.{get_or}
use Rattle.marks.proofs.Marking.{marked-none, marked_more, bits_none, bits-more}
use Rattle.marks.proofs.marks_of.Goals as goal

pub loop-label-init : goal.loop-label-init
loop-label-init c = record { marked = marked-none; bits = bits_none }

pub loop-label-preserved : goal.loop-label-preserved
loop-label-preserved c =
    let chosen = c.args.chosen.now in
    let k = c.loop-label.label-index in
    let m = c.loop-label.invariant in
    rw c.from.ensures
    (record {
      marked = marked_more chosen k m.marked c.loop-label-test.true (c.requires k c.loop-label-test.true);
      bits = bits-more c.loop-label.marks (get_or chosen k 0) m.bits;
    })
