-- `put_head` puts the line of the counts, and behind it the line of the order.
use native.Mathlib.Omega.{arith}
use mathlib.Core.Path.{sym, ◌∙◌}
use lib.Seq.{length-take-le}
use Rattle.listing.proofs.Placing.{puts_then}
use Rattle.lister.proofs.Asked.{counts-fit, order-there, order-fits}
use Rattle.lister.proofs.lines.Listed.put_head.Goals as goal

pub accepted-requires : goal.accepted-requires
accepted-requires c =
    let (variables, rows, chosen, transitions) = counts-fit c.args.self.now.ordered in
    (variables, rows, chosen, transitions, omega (arith, c.requires.0, c.requires.1))

pub slice_bounds-order-end : goal.slice_bounds-order-end
slice_bounds-order-end c = sym (length-take-le _ _ (order-there c.args.self.now.ordered))

pub order-requires : goal.order-requires
order-requires c =
    let a = c.accepted.ensures in
    order-fits c.args.self.now.ordered _ _ (omega (arith, c.requires.0, a.upper_bound)) (a.put.as_long ∙ c.requires.1)

pub returns : goal.returns
returns c = puts_then c.accepted.ensures.put c.order.ensures.put
