-- `covering_of` gives the lowest variable that is missed, else the lowest that is doubled. The loop's invariant: no variable
-- passed is missed, and the lowest of them that is doubled is known (`Passed`).
use native.Mathlib.Omega.{arith}
use mathlib.Core.Path.{refl}
use Rattle.entries.proofs.First.{first-le}
use Rattle.cover.specs.Inside.Masks.{bit_at}
use Rattle.cover.proofs.Blocks.{further-found, further-kept, passed_none, passing-stops, passing-goes-on, two-within}
use Rattle.cover.proofs.Blocks.{passing-ends-doubled, passing-ends-covered}
use Rattle.cover.proofs.covering_of.Goals.{then-two-v, else-two-v}
use Rattle.cover.proofs.covering_of.Goals as goal

pub loop-block-init : goal.loop-block-init
loop-block-init c = passed_none

pub returns-then-one-m : goal.returns-then-one-m
returns-then-one-m c =
    passing-stops c.loop-block.invariant refl (omega (arith, c.div_ceil-block-end.ensures, c.loop-block-test.true)) c.min-m.ensures
    c.masks_of-w.ensures (omega arith) c.lowest_bit-one.ensures c.if-one-m.true refl

pub overflow_add-two : goal.overflow_add-two
overflow_add-two c =
    omega (arith, c.if-two-v.true, c.min-m.ensures, c.lowest_bit-two.ensures, first-le (bit_at c.masks_of-w.result.twice) c.min-m.result)

pub loop-block-preserved : goal.loop-block-preserved
loop-block-preserved c =
    passing-goes-on c.loop-block.invariant refl (omega (arith, c.div_ceil-block-end.ensures, c.loop-block-test.true)) c.min-m.ensures
    c.masks_of-w.ensures (omega arith) c.lowest_bit-one.ensures c.if-one-m.false
    (elim c.if-two-v.branch [
      | then-two-v w ↦ rw (← w.lowest_bit-two.ensures) (further-found _ w.if-two-v.true w.two-is)
      | else-two-v w ↦ further-kept _ (two-within c.loop-block.invariant) w.if-two-v.false w.two-is
    ])

pub returns-then-two-variables : goal.returns-then-two-variables
returns-then-two-variables c =
    passing-ends-doubled c.loop-block.invariant (omega (arith, c.div_ceil-block-end.ensures, c.loop-block-test.false)) c.if-two-variables.true

pub returns-else-two-variables : goal.returns-else-two-variables
returns-else-two-variables c =
    passing-ends-covered c.loop-block.invariant (omega (arith, c.div_ceil-block-end.ensures, c.loop-block-test.false)) c.if-two-variables.false
