-- `decimal` puts the digits of a number as `decimal` has them: those of its hundredth, and behind them its last two.
use native.Mathlib.Omega.{arith}
use Rattle.listing.proofs.Decimals.{decimal-small, decimal-two, decimal-last_two, some-digit, length-two, length-last_two, ten_digits}
use Rattle.listing.proofs.Placing.{puts_then}
use Rattle.listing.proofs.Pen.+decimal.Goals as goal

pub byte-requires : goal.byte-requires
byte-requires t c = omega (arith, some-digit c.args.n)

pub returns-then-n-lt10-clause-put : goal.returns-then-n-lt10-clause-put
returns-then-n-lt10-clause-put t c = rw (decimal-small c.args.n c.if-n-lt10.true) c.byte.ensures

pub two_digits-requires : goal.two_digits-requires
two_digits-requires t c = (c.if-n-lt100.true, omega (arith, length-two c.args.n c.if-n-lt10.false c.if-n-lt100.true))

pub returns-then-n-lt100-clause-put : goal.returns-then-n-lt100-clause-put
returns-then-n-lt100-clause-put t c = rw (decimal-two c.args.n c.if-n-lt10.false c.if-n-lt100.true) c.two_digits.ensures

pub decimal-requires : goal.decimal-requires
decimal-requires t c = omega (arith, length-last_two c.args.n c.if-n-lt100.false)

pub two_digits-requires-2 : goal.two_digits-requires-2
two_digits-requires-2 t c =
    let m = length-last_two c.args.n c.if-n-lt100.false in
    omega (arith, m, c.decimal.ensures.put.put.next, c.decimal.ensures.put.as_long)

pub returns-clause-put : goal.returns-clause-put
returns-clause-put t c = rw (decimal-last_two c.args.n c.if-n-lt100.false) (puts_then c.decimal.ensures.put c.two_digits-2.ensures)

pub returns-clause-upper_bound : goal.returns-clause-upper_bound
returns-clause-upper_bound t c =
    let m = length-last_two c.args.n c.if-n-lt100.false in
    omega (arith, c.two_digits-2.ensures.put.next, c.decimal.ensures.put.put.next, ten_digits c.args.n c.ranges.n.fits)
