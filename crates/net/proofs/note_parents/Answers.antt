-- None is noted beforehand; where there is no row, none is noted.
use native.Mathlib.Omega.{arith}
use Rattle.net.proofs.Notes.{words_none, words_to}
use Rattle.net.proofs.note_parents.Goals as goal

pub loop-i-init : goal.loop-i-init
loop-i-init c = (omega arith, words_none _ _ 1 c.told-parents)

pub returns : goal.returns
returns c = words_to _ _ c.loop-i.invariant.1 (omega arith) (λ i h k. grind arith)
