-- `two_digits` puts the tenth, and behind it the rest: two stores are a piece of two bytes.
use Prim.Native.Nat.{◌+◌, ◌/◌, ◌%◌}
use native.Mathlib.Omega.{arith}
use mathlib.Core.Path.{refl}
use Rattle.listing.proofs.Placing.{put-stored, put-length, put_then, puts}
use Rattle.listing.proofs.Pen.two_digits.Goals as goal

pub returns : goal.returns
returns c =
    let one = put-stored c.args.self.now.buf.now c.args.self.now.at (48 + c.args.n / 10) (omega arith) in
    let both = put_then one (put-stored _ _ (48 + c.args.n % 10) (omega (arith, put-length one))) in
    puts refl refl (record { text = both.text; next = refl; within = omega (arith, both.within) })
