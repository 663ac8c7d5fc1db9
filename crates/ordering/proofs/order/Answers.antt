-- The loop's invariant: the indices below `from` are placed or wait, and the labels placed so far stand in `out`. The measure is how
-- many may still be placed.
use Prim.Native.Nat.{ℕ}
use native.Mathlib.Omega.{arith}
use lib.ListN.{length-replicate}
use Rattle.paper.specs.Limits.{slots}
use Rattle.ordering.specs.Inside.Reported.{ordered}
use Rattle.ordering.proofs.Greedy.{state-filled, placing-first, state-after, not_full, placing-more, placing-done}
use Rattle.fingers.proofs.Seeking.{started}
use Rattle.ordering.proofs.order.Goals as goal

pub loop-k-init : goal.loop-k-init
loop-k-init c =
    let r = c.args.g.now.ready in
    let few = r.choice.few in
    let start = started _ _ _ _ _ _ _ r c.start.ensures in (
      omega arith,
      state-filled _ _ _ _ _ (omega arith) start (length-replicate {A = ℕ} slots 0) (c.fill.ensures.after (λ y e. e)) (c.fill-2.ensures.after (λ y e. e)),
      placing-first _ _ _ (omega arith) c.requires,
    )

pub loop-k-smaller : goal.loop-k-smaller
loop-k-smaller c = let z = not_full _ _ _ _ _ _ _ _ _ _ c.in-Some.ensures c.loop-k.invariant.2 in omega arith

pub loop-k-preserved : goal.loop-k-preserved
loop-k-preserved c =
    let w = c.in-Some.ensures in
    let h = w.inside in
    let l = c.min-from.ensures in (
      omega arith,
      state-after _ _ _ _ _ _ w.state h _ (omega (arith, c.from.ensures)) (omega arith),
      placing-more _ _ _ _ _ _ _ _ _ _ w c.loop-k.invariant.2,
    )

pub returns : goal.returns
unfolding ordered
returns c =
    let w = placing-done _ _ _ _ _ _ _ _ _ _ c.in_default.ensures c.loop-k.invariant.2 (omega arith) in
    record { number = w.0; filled = w.1 }
