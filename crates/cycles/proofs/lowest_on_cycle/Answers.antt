-- The loop's invariant: the path is empty, `best` is as it should be, and the indices below root are not new.
use native.Mathlib.Omega.{arith}
use mathlib.Core.Path.{refl, ◌∙◌}
use Rattle.entries.proofs.First.{first-same}
use Rattle.cycles.specs.Inside.Cyclic.{is_on_cycle, lowest_on_cycle}
use Rattle.cycles.specs.Inside.Path.{is_cyclic}
use Rattle.fingers.proofs.Seeking.{started}
use Rattle.cycles.proofs.Steps.{empty-first, best-start, best-first}
use Rattle.cycles.proofs.lowest_on_cycle.Goals as goal

pub loop-root-init : goal.loop-root-init
loop-root-init c =
    let R = c.args.g.now.ready in
    let s = R.choice.few in (
      empty-first _ _ (omega arith) (started _ _ _ _ _ _ _ R c.start.ensures),
      best-start _ _ (omega arith) c.first_self-best.ensures,
      λ i h. absurd (omega arith),
    )

pub returns : goal.returns
unfolding lowest_on_cycle is_on_cycle is_cyclic
returns c =
    let v = c.loop-root.invariant in
    best-first _ _ _ _ _ _ v.0 v.1 (λ i hi. v.2 i (omega (arith, c.loop-root-test.false))) ∙ first-same _ _ _ (λ k h. refl)
