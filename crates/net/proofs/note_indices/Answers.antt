-- The chains of chosen labels are noted from the last label down: those from index k on are linked.
use Prim.Native.Nat.{◌-◌}
use native.Mathlib.Omega.{arith}
use mathlib.Core.Path.{◌∙◌}
use Rattle.net.proofs.Chains.{linked-none, linked-more, linked-all}
use Rattle.net.proofs.note_indices.Goals as goal

pub loop-k-init : goal.loop-k-init
loop-k-init c = linked-none _ _ c.told-nexts c.told-firsts (c.fill.ensures.after (λ y e. e))

pub loop-k-preserved : goal.loop-k-preserved
loop-k-preserved c =
    let made = c.args.c.now.made in
    let of = c.from-i.ensures ∙ c.arg_of.ensures in
    let low = made.variables (c.loop-k.k - 1) (omega arith) in
    let few = made.few in
    linked-more _ _ _ _ _ c.loop-k.invariant (omega arith) (omega arith) (omega arith) of (omega arith)

pub returns : goal.returns
returns c = linked-all _ _ c.loop-k.invariant (omega arith) c.told-firsts
