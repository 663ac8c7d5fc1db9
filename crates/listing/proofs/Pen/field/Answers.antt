-- `field` puts a space, and the number behind it; a label has at most five digits.
use native.Mathlib.Omega.{arith}
use Rattle.listing.proofs.Decimals.{five_digits}
use Rattle.listing.proofs.Placing.{puts_then}
use Rattle.listing.proofs.Pen.field.Goals as goal

pub returns-clause-put : goal.returns-clause-put
returns-clause-put c = puts_then c.byte.ensures c.decimal.ensures.put

pub returns-clause-label : goal.returns-clause-label
returns-clause-label c small = omega (arith, c.byte.ensures.put.next, c.decimal.ensures.put.put.next, five_digits c.args.n small)
