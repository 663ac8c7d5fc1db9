-- A turn takes the least with one more index of the path.
use Prim.Native.Nat.{◌-◌, min}
use mathlib.Core.Path.{◌∙◌, ap}
use native.Mathlib.Omega.{arith}
use lib.ListN.{drop}
use Rattle.std.proofs.lemmas.List.{get_or-take, get_or-drop}
use Rattle.cycles.proofs.Loops.{settle-more}
use Rattle.cycles.proofs.settle.Goals as goal

pub loop-i-preserved : goal.loop-i-preserved
loop-i-preserved c =
    settle-more _ _ _ _ _ _ _ (omega arith) (omega arith)
    ((rw c.from.ensures at c.min-r.ensures) ∙ ap (min c.loop-i.r)
    (get_or-take (c.args.len - c.args.from) (drop c.args.from c.args.stack.now) c.loop-i.i-index 0 (omega arith)
    ∙ get_or-drop c.args.from c.args.stack.now c.loop-i.i-index 0))
    c.loop-i.invariant
