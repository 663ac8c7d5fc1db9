-- `fields` puts the labels one by one: the fields of those passed are in the buffer, and a turn puts one more.
use lib.ListN.{length, take}
use Rattle.listing.specs.Text.{fields}
use Rattle.listing.proofs.Pieces.{Putting}
use Rattle.listing.proofs.Pen.fields.Given as goal

abbrev pub invariant-loop-label : goal.invariant-loop-label
invariant-loop-label l = Putting (λ k. fields (take k l.labels)) (length l.labels) l.initial.self l.self l.label-index
