-- `transition` puts the number, "assign" and its labels, "keep" and its labels, and the end of the line, one after another.
use native.Mathlib.Omega.{arith}
use Rattle.listing.specs.Text.{transition_line}
use Rattle.listing.proofs.Decimals.{ten_digits}
use Rattle.listing.proofs.Placing.{puts_then}
use Rattle.listing.proofs.Pen.transition.Goals as goal

pub decimal-requires : goal.decimal-requires
decimal-requires c = let s = c in omega (arith, ten_digits s.args.k s.requires.0)

pub returns-clause-put : goal.returns-clause-put
unfolding transition_line
returns-clause-put c =
    let assign = puts_then (puts_then c.decimal.ensures.put c.word.ensures) c.fields.ensures.put in
    let keep = puts_then c.word-2.ensures c.kept_fields.ensures.put in
    puts_then assign (puts_then keep c.byte.ensures)
