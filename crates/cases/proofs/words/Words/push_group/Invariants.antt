-- `push_group` reads the same entries in each repetition, and comes to the text behind them.
use Rattle.std.proofs.Common.{◌<◌, IfSome, length}
use Rattle.cases.proofs.words.Words.push_group.Given as goal

abbrev pub invariant-loop-i : goal.invariant-loop-i
invariant-loop-i l = IfSome l.behind (λ r. length r.now < length l.text)
