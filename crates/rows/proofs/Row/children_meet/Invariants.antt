-- The children meet the end: what is left to step over from here meets it just if all of them do from the first.
use Prim.Native.Nat.{◌+◌, ◌-◌}
use mathlib.Core.Path.{◌≡◌}
use Rattle.rows.specs.Rows.{meets}
use Rattle.rows.proofs.Row.children_meet.Given as goal

abbrev pub invariant-loop-i : goal.invariant-loop-i
invariant-loop-i l =
    meets l.self.rows.now l.self.end.0 (l.self.at.0 + 1) l.m ≡ meets l.self.rows.now l.self.end.0 l.here.0 (l.m - l._i)
