-- `position` puts the position as a field where its byte is 1, and nothing otherwise.
use native.Mathlib.Omega.{arith}
use borrow.Author.Rules.{rules}
use Rattle.listing.proofs.Decimals.{five_digits}
use Rattle.listing.proofs.Placing.{puts-nothing}
use Rattle.listing.proofs.Texts.{position-kept, position-left-out}
use Rattle.listing.proofs.Pen.position.Goals as goal

pub field-requires : goal.field-requires
field-requires c = omega (arith, five_digits c.from.result (search rules))

pub returns-then-byte-eq1-clause-put : goal.returns-then-byte-eq1-clause-put
returns-then-byte-eq1-clause-put c = rw (position-kept _ _ c.if-byte-eq1.true) (rw c.from.ensures at c.field.ensures.put)

pub returns-else-byte-eq1-clause-put : goal.returns-else-byte-eq1-clause-put
returns-else-byte-eq1-clause-put c = rw (position-left-out _ _ c.if-byte-eq1.false) (puts-nothing _ (omega arith))
