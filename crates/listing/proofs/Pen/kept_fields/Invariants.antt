-- `kept_fields` goes through the bytes: the fields of the kept ones among the first i positions are in the buffer, and a turn
-- puts the next position where it is kept.
use lib.ListN.{length, take}
use Rattle.marks.specs.Marks.{positions}
use Rattle.listing.specs.Text.{fields}
use Rattle.listing.proofs.Pieces.{Putting}
use Rattle.listing.proofs.Pen.kept_fields.Given as goal

abbrev pub invariant-loop-i : goal.invariant-loop-i
invariant-loop-i l = Putting (λ k. fields (positions (take k l.kept))) (length l.kept) l.initial.self l.self l.i
