-- `word` copies the word into the part of the buffer that is as long.
use mathlib.Core.Path.{refl}
use Rattle.listing.proofs.Placing.{put-part, puts}
use Rattle.listing.proofs.Pen.word.Goals as goal

pub returns : goal.returns
returns c = puts refl refl (put-part _ _ c.requires c.copy_from_slice.ensures.after)
