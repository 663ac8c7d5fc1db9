-- The net is noted, the order worked out from it, and what it leaves decides: a cycle, or the count. Where the count accepts, the order
-- is copied.
use native.Mathlib.Omega.{arith}
use mathlib.Core.Path.{refl, sym, ap, ◌∙◌}
use Rattle.std.specs.Prelude.{Err}
use Rattle.std.proofs.lemmas.Result.{err_from_is_err_and}
use Rattle.paper.specs.declared.refusals.Fault.TheVariants.{NoOrder}
use Rattle.paper.specs.Refusals.{refusal}
use Rattle.net.proofs.Notes.{is_net}
use Rattle.strategy.proofs.Placed.{choice, readied}
use Rattle.strategy.proofs.Answers.{cycle-there, cycle-refused, count-refused, count-accepted}
use Rattle.strategy.proofs.checks.ordered.Goals as goal

pub invariant_of-choice : goal.invariant_of-choice
invariant_of-choice c = record { made = rw c.requires.1 (choice c.requires.0) }

pub invariant_of-following : goal.invariant_of-following
invariant_of-following c = record { ready = rw c.requires.1 (readied c.requires.0 (rw c.requires.1 at (is_net c.note_net.ensures))) }

pub offset_bounds-chosen-k : goal.offset_bounds-chosen-k
offset_bounds-chosen-k c =
    let (h, f) = cycle-there c.args.l c.requires.0 c.order-placed.ensures c.if-placed-chosen.true c.lowest_on_cycle-k.ensures in
    omega arith

pub bounds-chosen-k : goal.bounds-chosen-k
bounds-chosen-k c =
    let (h, f) = cycle-there c.args.l c.requires.0 c.order-placed.ensures c.if-placed-chosen.true c.lowest_on_cycle-k.ensures in
    omega arith

pub returns-then-placed-chosen : goal.returns-then-placed-chosen
returns-then-placed-chosen c =
    cycle-refused _ c.requires.0 c.order-placed.ensures _ c.if-placed-chosen.true c.lowest_on_cycle-k.ensures
    (ap Err (c.refusal_for.ensures ∙ ap (refusal NoOrder) c.from.ensures))

pub returns-in_err-accepted : goal.returns-in_err-accepted
returns-in_err-accepted c =
    let p = err_from_is_err_and c.from_residual.result c.from_residual.ensures.1 in
    rw (p.1, p.2)
    (count-refused _ c.requires.0 c.order-placed.ensures c.if-placed-chosen.false c.requires.2 (sym c.in_err-accepted.was ∙ c.counted.ensures) _ refl)

pub returns : goal.returns
returns c =
    count-accepted _ c.requires.0 c.order-placed.ensures c.if-placed-chosen.false c.requires.2 (sym c.in_ok-accepted.was ∙ c.counted.ensures) refl
    (simp c.copy_from_slice.ensures.after)
