-- `lowest_bit` gives the lowest bit set of the m lowest, or m.
use native.Mathlib.Omega.{arith}
use mathlib.Core.Path.{◌∙◌}
use Rattle.cover.proofs.Bits.{lowest-set}
use Rattle.cover.proofs.lowest_bit.Goals as goal

pub returns : goal.returns
returns c = c.min.ensures ∙ lowest-set _ _ (omega (arith, c.ranges.w)) c.requires
