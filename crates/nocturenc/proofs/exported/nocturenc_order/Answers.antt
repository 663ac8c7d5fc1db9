-- The answer is packed, and the lent slice is as the request leaves it.
use mathlib.Core.Path.{sym, subst}
use Rattle.answers.specs.Inside.Judged.{FitFilled}
use Rattle.answers.proofs.Amounts.{order-fits}
use Rattle.nocturenc.proofs.exported.nocturenc_order.Goals as goal

pub packed_filled-requires : goal.packed_filled-requires
packed_filled-requires c = subst FitFilled (sym c.order.ensures.answered) (order-fits _ _)
