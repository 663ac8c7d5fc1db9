-- `value_of` reads the formula at a row. The recursion goes by the levels left, and the loop over the expressions under the row
-- by those passed: joined to what they gave, those still to come give the value (`Walking`).
use native.Mathlib.Omega.{arith}
use mathlib.Core.Path.{sym, ap, ◌∙◌}
use Rattle.rows.proofs.Walks.{value_none, value-lone, value-candidate, walk_begins, walk-on, walk-turns, walk_ends}
use Rattle.rows.proofs.walk.Formula.+value_of.Goals as goal

pub returns-then-left-eq0 : goal.returns-then-left-eq0
returns-then-left-eq0 g t c = c.at_leaf.ensures.0 ∙ sym (value_none _ _ _ _ c.if-left-eq0.true)

pub loop-child-init : goal.loop-child-init
loop-child-init g t c =
    let same = c.into_iter-child-iterator.ensures.into_iter_gives in
    let under = c.children-child-items.ensures in
    rw same
    (record {
      same = ap (λ rows. rows.now) under.0;
      walking =
          walk_begins (record { shaped = c.args.self.now.shaped; here = c.requires }) c.if-left-eq0.false c.form_of-form.ensures c.in-Conjunction.is
          c.is_conjunction-conj.ensures c.unit-acc.ensures under.1 under.2;
    })

pub value_of-requires : goal.value_of-requires
value_of-requires g t c κs within =
    let next = c.in-Some.ensures.steps in
    (omega (arith, c.if-left-eq0.false), (within.0, (within.1, (walk-on c.loop-child.invariant.walking next.0 next.1).here)))

pub loop-child-preserved : goal.loop-child-preserved
loop-child-preserved g t c =
    let next = c.in-Some.ensures.steps in
    let s = c.loop-child.invariant in
    record {
      same = ap (λ rows. rows.now) next.2 ∙ s.same;
      walking = walk-turns s.walking next.0 next.1 c.value_of.ensures c.join-acc.ensures next.3 (rw s.same at next.4);
    }

pub returns-in-False : goal.returns-in-False
returns-in-False g t c =
    value-lone _ _ c.if-left-eq0.false c.form_of-form.ensures c.in-False.is c.at_leaf-in-False.ensures.0 c.at_leaf-in-False.ensures.1

pub returns-in-Candidate : goal.returns-in-Candidate
returns-in-Candidate g t c =
    value-candidate _ _ c.if-left-eq0.false c.form_of-form.ensures c.in-Candidate.is (rw (← c.arg_of.ensures) c.at_candidate.ensures)

pub returns-in-None : goal.returns-in-None
returns-in-None g t c = walk_ends c.loop-child.invariant.walking c.in-None.ensures.steps.0
