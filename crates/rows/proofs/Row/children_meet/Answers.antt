-- The children meet the end: what is left to step over from here meets it just if all of them do from the first.
use native.Mathlib.Omega.{arith}
use mathlib.Core.Path.{sym, ◌∙◌}
use Rattle.rows.proofs.Rules.{number_of, less_one}
use Rattle.rows.proofs.Meets.{meets-end, meets-past, meets-flat, meets-over, meets_on}
use Rattle.rows.proofs.Row.children_meet.Goals as goal

pub returns-then-self-here : goal.returns-then-self-here
returns-then-self-here c = sym (c.loop-i.invariant ∙ meets-past _ _ _ _ (omega arith) c.if-self-here.true)

pub returns-then-next-here : goal.returns-then-next-here
returns-then-next-here c =
    let e = number_of c.end_of-next.ensures in
    sym (c.loop-i.invariant ∙ meets-flat _ _ _ _ (omega arith) (omega arith))

pub returns-then-self-next : goal.returns-then-self-next
returns-then-self-next c =
    let e = number_of c.end_of-next.ensures in
    sym (c.loop-i.invariant ∙ meets-over _ _ _ _ (omega arith) (omega arith))

pub loop-i-preserved : goal.loop-i-preserved
loop-i-preserved c =
    let e = number_of c.end_of-next.ensures in
    rw (e, less_one c.args.m c.loop-i._i) (c.loop-i.invariant ∙ meets_on _ _ _ _ (omega arith) (omega arith) (omega arith) (omega arith))

pub returns : goal.returns
returns c = sym (c.loop-i.invariant ∙ meets-end _ _ _ _ (omega arith))
