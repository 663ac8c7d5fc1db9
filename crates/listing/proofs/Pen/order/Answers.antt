-- `order` puts the word, the labels and the end of the line, one after another.
use Rattle.listing.specs.Text.{order_line}
use Rattle.listing.proofs.Placing.{puts_then}
use Rattle.listing.proofs.Pen.order.Goals as goal

pub returns-clause-put : goal.returns-clause-put
unfolding order_line
returns-clause-put c = puts_then (puts_then c.word.ensures c.fields.ensures.put) c.byte.ensures
