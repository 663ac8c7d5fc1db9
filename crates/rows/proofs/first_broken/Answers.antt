-- The lowest row that breaks its rules is found: all rows passed keep theirs, so that the reads which they take are there.
use Prim.Native.Nat.{◌+◌, ◌≤◌}
use native.Mathlib.Omega.{arith}
use mathlib.Core.Path.{◌≡◌, refl, sym, ap, ◌∙◌}
use mathlib.Core.Bool.{not}
use lib.ListN.{length}
use borrow.Author.Count.{below_more}
use Rattle.rows.specs.Rows.{taken_before}
use Rattle.entries.proofs.First.{first_found, first-none}
use Rattle.rows.proofs.Taken.{taken_more, takes-there}
use Rattle.rows.proofs.first_broken.Goals as goal

pub loop-i-init : goal.loop-i-init
unfolding taken_before
loop-i-init c = (refl, omega arith, λ j h. absurd (omega arith))

pub returns-then-not-keeps_rules : goal.returns-then-not-keeps_rules
returns-then-not-keeps_rules c =
    sym (first_found _ _ _ c.loop-i.invariant.2 (omega arith) (ap not (sym c.keeps_rules.ensures ∙ c.if-not-keeps_rules.true)))

pub loop-i-preserved : goal.loop-i-preserved
loop-i-preserved c =
    -- the reads taken with those of a row that keeps its rules
    let inv = c.loop-i.invariant in
    let more : c.loop-i.taken + c.taken_by-taken.result ≡ taken_before c.args.rows.now (c.loop-i.i + 1) = taken_more _ _ _ _ inv.0 c.taken_by-taken.ensures in
    let keeps = sym c.keeps_rules.ensures ∙ c.if-not-keeps_rules.false in
    let there : c.loop-i.taken + c.taken_by-taken.result ≤ length c.args.reads.now = rw more (takes-there _ _ _ _ _ keeps (rw inv.0 at inv.1)) in
    (more, there, below_more _ _ inv.2 (ap not keeps))

pub returns : goal.returns
returns c = sym (first-none _ _ (λ j h. c.loop-i.invariant.2 j (omega arith)))
