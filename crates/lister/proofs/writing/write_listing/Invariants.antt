-- Each turn gives the part that comes next to the writing call; the number of pieces left falls.
use Prim.Native.Nat.{◌-◌}
use Rattle.lister.specs.Inside.Whole.{words_in, judged_in}
use Rattle.lister.proofs.Written.{Writing}
use Rattle.lister.proofs.writing.write_listing.Given as goal

abbrev pub invariant-loop-next : goal.invariant-loop-next
invariant-loop-next g l = Writing (words_in l.listed) (judged_in l.listed) l.text l.next l.written

abbrev pub decreases-loop-next : goal.decreases-loop-next
decreases-loop-next g l = l.count - l.next
