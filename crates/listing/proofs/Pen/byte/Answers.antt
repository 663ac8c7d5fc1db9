-- `byte` puts one byte: a store is a piece of one byte.
use native.Mathlib.Omega.{arith}
use mathlib.Core.Path.{refl}
use Rattle.listing.proofs.Placing.{put-stored, puts}
use Rattle.listing.proofs.Pen.byte.Goals as goal

pub returns : goal.returns
returns c = puts refl refl (put-stored _ _ _ (omega arith))
