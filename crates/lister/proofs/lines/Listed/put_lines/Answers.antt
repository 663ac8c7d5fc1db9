-- `put_lines` puts line after line: the invariant is that those of the transitions passed stand in front, and that as many more fit as are
-- left of those that fit at first.
use native.Mathlib.Omega.{arith}
use mathlib.Core.Path.{refl}
use Rattle.lister.proofs.Asked.{line-room}
use Rattle.lister.proofs.LinesPut.{putting-begins, putting-goes-on, none_left, no_room, lines-all}
use Rattle.lister.proofs.lines.Listed.put_lines.Goals as goal

pub overflow_mul-most : goal.overflow_mul-most
overflow_mul-most c = let few = line-room _ _ c.args.self.now.ordered.accepted 65536 refl in omega arith

pub overflow_add-most : goal.overflow_add-most
overflow_add-most c = let few = line-room _ _ c.args.self.now.ordered.accepted 65536 refl in omega arith

pub overflow_mul-most-2 : goal.overflow_mul-most-2
overflow_mul-most-2 c = let few = line-room _ _ c.args.self.now.ordered.accepted 65536 refl in omega arith

pub overflow_add-most-2 : goal.overflow_add-most-2
overflow_add-most-2 c = let few = line-room _ _ c.args.self.now.ordered.accepted 65536 refl in omega arith

pub loop-count-init : goal.loop-count-init
loop-count-init c = putting-begins _ _ c.requires.1.0

pub returns-then-pen-most : goal.returns-then-pen-most
returns-then-pen-most c =
    let i = c.loop-count.invariant in
    record { many = no_room _ _ i (omega (arith, i.puts.as_long, c.if-pen-most.true)); puts = i.puts }

pub loop-count-preserved : goal.loop-count-preserved
loop-count-preserved c =
    let i = c.loop-count.invariant in
    putting-goes-on _ _ i c.loop-count-test.true (omega (arith, i.puts.as_long, c.if-pen-most.false)) c.put_line.ensures

pub returns : goal.returns
returns c =
    let i = c.loop-count.invariant in
    let all = c.loop-count-test.false in
    record { many = omega (arith, none_left _ _ i all, i.so_far); puts = lines-all _ _ i all }
