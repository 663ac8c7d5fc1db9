-- `keep` sets the bytes of the labels that a key keeps. The recursion goes by the levels left, and the loop over the expressions
-- under a row by what those still to come have to keep (`Taking`).
use native.Mathlib.Omega.{arith}
use mathlib.Core.Path.{refl, ap, ◌∙◌}
use Rattle.transitions.proofs.Taking.{turned_on, turned-off, set-with-none, set-alone, taking-begins, taking-on}
use Rattle.transitions.proofs.Taking.{taking-take, taking-asks, taking-turns, taking-ends, taking-stops}
use Rattle.transitions.proofs.kept.+keep.Goals.{in-Some-key, in_default}
use Rattle.transitions.proofs.kept.+keep.Goals as goal

pub returns-then-left-eq0 : goal.returns-then-left-eq0
returns-then-left-eq0 t c = rw c.from-i.ensures (set-with-none c.if-left-eq0.true)

pub loop-child-init : goal.loop-child-init
loop-child-init t c =
    let under = c.children-child-items.ensures in
    rw c.into_iter-child-iterator.ensures.into_iter_gives
    (record {
      same = ap (λ rows. rows.now) under.0;
      taking =
          taking-begins c.form_of-form.ensures c.in-Conjunction.is c.if-left-eq0.false c.args.f.now.formula.shaped c.requires
          c.goes_by_each.ensures c.shares_of-s.ensures under.1 under.2;
    })

pub keys_of-keys-requires : goal.keys_of-keys-requires
keys_of-keys-requires t c =
    let next = c.in-Some.ensures.steps in
    rw next.1 (taking-on c.loop-child.invariant.taking next.0).here

pub turn_of-turn-requires : goal.turn_of-turn-requires
turn_of-turn-requires t c =
    let next = c.in-Some.ensures.steps in
    taking-take c.loop-child.invariant.taking next.0 (rw next.1 at c.keys_of-keys.ensures.0) c.total_of.ensures

pub keep-requires : goal.keep-requires
keep-requires t c =
    let next = c.in-Some.ensures.steps in (
      omega (arith, c.if-left-eq0.false),
      rw next.1
          (taking-asks c.loop-child.invariant.taking next.0 (rw next.1 at c.keys_of-keys.ensures.0) c.total_of.ensures c.turn_of-turn.ensures
          c.in-Some-key.is c.requires.room c.requires.size),
    )

pub returns-in-Done : goal.returns-in-Done
returns-in-Done t c =
    let next = c.in-Some.ensures.steps in
    taking-stops
    (taking-turns c.loop-child.invariant.taking next.0 (rw next.1 at c.keys_of-keys.ensures.0) c.total_of.ensures
    c.turn_of-turn.ensures (elim c.match-turn.branch [
      | in-Some-key w ↦ turned_on w.out-is w.in-Some-key.is w.keep.auto.out (rw next.1 at w.keep.ensures)
      | in_default w ↦ turned-off w.out-is w.in_default.is
    ]) refl refl) c.in-Done.is

pub loop-child-preserved : goal.loop-child-preserved
loop-child-preserved t c =
    let next = c.in-Some.ensures.steps in
    let s = c.loop-child.invariant in
    record {
      same = ap (λ rows. rows.now) next.2 ∙ s.same;
      taking =
          taking-turns s.taking next.0 (rw next.1 at c.keys_of-keys.ensures.0) c.total_of.ensures
          c.turn_of-turn.ensures (elim c.match-turn.branch [
            | in-Some-key w ↦ turned_on w.out-is w.in-Some-key.is w.keep.auto.out (rw next.1 at w.keep.ensures)
            | in_default w ↦ turned-off w.out-is w.in_default.is
          ]) next.3 (rw s.same at next.4);
    }

pub returns-in-False : goal.returns-in-False
returns-in-False t c = rw c.from-i.ensures (set-alone c.if-left-eq0.false c.form_of-form.ensures c.in-False.is)

pub returns-in-None : goal.returns-in-None
returns-in-None t c = taking-ends c.loop-child.invariant.taking c.in-None.ensures.steps.0
