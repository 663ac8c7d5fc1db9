-- Each way out of a step has its law: the last segment is done, its index's finger has run out, a new index is put on the path,
-- or segments join.
use Prim.Native.Nat.{◌<◌}
use Rattle.cycles.proofs.Walks.{base}
use Rattle.cycles.proofs.Steps.{ahead_of, two-or-more, step-pop, step_back, step_push, step-merge}
use Rattle.cycles.proofs.Path.step.Goals.{Else-at-b}
use Rattle.cycles.proofs.Path.step.Goals as goal

-- the path has a segment; where the last is not done, the walk stands on an index of it
module _ (c : Else-at-b) where
  some : 0 < c.args.w.top
  some = c.requires.1.some c.requires.0

  ahead : base c.args.self.now.bound c.args.w.top < c.args.w.at
  ahead = ahead_of _ _ _ _ _ _ _ _ c.requires.1 some c.if-at-b.false

pub returns-then-at-b : goal.returns-then-at-b
returns-then-at-b c =
    step-pop _ _ _ _ _ _ _ _ c.requires.1 (c.requires.1.some c.requires.0) _ c.requires.2 c.if-at-b.true _ _ c.finish.ensures c.counted.ensures

pub returns-then-size-l : goal.returns-then-size-l
returns-then-size-l c =
    let e = (goal.at.returns-then-size-l c).Else-at-b in
    step_back _ _ _ _ _ _ _ _ c.requires.1 (some e) _ c.requires.2 (ahead e) _ _ c.seek-x.ensures.next c.if-size-l.true

pub returns-then-self-l-eq0 : goal.returns-then-self-l-eq0
returns-then-self-l-eq0 c =
    let e = (goal.at.returns-then-self-l-eq0 c).Else-at-b in
    step_push _ _ _ _ _ _ _ _ c.requires.1 (some e) _ c.requires.2 (ahead e) _ _ c.seek-x.ensures.next c.if-size-l.false c.if-self-l-eq0.true

pub overflow_sub-self : goal.overflow_sub-self
overflow_sub-self c =
    let hit = (c.seek-x.ensures.next.hit c.if-size-l.false).0 in
    two-or-more _ _ _ _ _ _ _ _ c.requires.1 (some (goal.at.overflow_sub-self c).Else-at-b) _ hit c.if-self-l-eq0.false

pub returns : goal.returns
returns c =
    let e = (goal.at.returns c).Else-at-b in
    step-merge _ _ _ _ _ _ _ _ c.requires.1 (some e) _ c.requires.2 (ahead e) _ _ c.seek-x.ensures.next c.if-size-l.false
    c.if-self-l-eq0.false _ c.merged.ensures
