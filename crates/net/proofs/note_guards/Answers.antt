-- Row 0 has no guard around it, whether it is there or not.
use Prim.Native.Nat.{◌+◌, ◌-◌}
use native.Mathlib.Omega.{arith}
use mathlib.Core.Path.{◌≡◌}
use Rattle.net.proofs.Notes.{words_none, words_more, words_to, guard-first}
use Rattle.net.proofs.note_guards.Goals as goal

pub loop-i-init : goal.loop-i-init
loop-i-init c = (omega arith, words_more 0 0 (words_none _ _ 0 c.told-guards) (omega arith) (omega arith) (guard-first _))

pub returns : goal.returns
returns c =
    let n = c.args.c.now.n in
    let last : c.loop-i.i ≡ 1 + (n - 1) = grind arith in
    words_to _ _ c.loop-i.invariant.1 (omega arith) (λ i h k. absurd (omega arith))
