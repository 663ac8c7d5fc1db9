-- Whether two candidates share a branch: the way up from the second ends at the first row over the other, whose kind tells of
-- all labels under it beside the way.
use Prim.Native.Nat.{◌<◌}
use mathlib.Core.Path.{◌≡◌, sym, ◌∙◌}
use mathlib.Core.Bool.{true}
use denote.Enum.Bare.{same_true, same_false}
use borrow.Author.Rules.{rules}
use Rattle.rows.specs.contracts.form.Form.{the_type}
use Rattle.rows.proofs.Rules.{number_of}
use Rattle.rows.specs.Inside.Tree.{is_under}
use Rattle.net.proofs.Clear.{is_conjunction, conjunction-form, Pair, Upward, top_below, upward-first, upward-next}
use Rattle.net.proofs.Clear.{cleared-same, cleared-joined, cleared-before, cleared-after}
use Rattle.net.proofs.clear_of.Goals.{After-loop-below, After-label_at-top-in-loop-below, At-loop-below}
use Rattle.net.proofs.clear_of.Goals as goal

-- the two candidates, at the head of the loop
module _ (c : At-loop-below) where
  two : let a = c.args in Pair a.rows.now a.n a.i.0 a.j.0
  two = let p = c.requires in record { tree = p.0; here = p.2; there = p.3; one = p.4; other = p.5 }

  low : c.loop-below.top.0 < c.args.n
  low = top_below two c.loop-below.invariant

-- the way goes on, to a row before this one
module _ (c : After-label_at-top-in-loop-below) where
  next : Upward c.args.rows.now c.args.i.0 c.args.j.0 c.loop-below.top.0 c.label_at-top-in-loop-below.result.0
  next =
      let p = c.requires in
      upward-next (two (goal.at.After-label_at-top-in-loop-below c).At-loop-below) p.1 c.loop-below.invariant (sym c.is_over.ensures ∙ c.loop-below-test.true)
      (number_of c.label_at-top-in-loop-below.ensures)

-- the way ends, at a row over the other
module _ (c : After-loop-below) where
  over : is_under c.args.rows.now c.loop-below.top.0 c.args.i.0 ≡ true
  over = sym c.is_over.ensures ∙ c.loop-below-test.false

pub returns-then-i-j : goal.returns-then-i-j
returns-then-i-j c = cleared-same _ _ _ c.if-i-j.true

pub loop-below-init : goal.loop-below-init
loop-below-init c =
    let p = c.requires in
    let r : Pair c.args.rows.now c.args.n c.args.i.0 c.args.j.0 = record { tree = p.0; here = p.2; there = p.3; one = p.4; other = p.5 } in
    upward-first r p.1 c.if-i-j.false (number_of c.label_at-top.ensures)

pub loop-below-smaller : goal.loop-below-smaller
loop-below-smaller c = (next (goal.at.loop-below-smaller c).After-label_at-top-in-loop-below).up.reached.below

pub loop-below-preserved : goal.loop-below-preserved
loop-below-preserved c = next (goal.at.loop-below-preserved c).After-label_at-top-in-loop-below

pub returns-then-eq : goal.returns-then-eq
returns-then-eq c =
    let w = goal.at.returns-then-eq c in
    cleared-joined (two w.At-loop-below) c.loop-below.invariant (over w.After-loop-below)
    (is_conjunction _ (sym c.form_of.ensures ∙ same_true the_type (search rules) _ _ (sym c.if-eq.ensures)))

pub returns-then-i-below : goal.returns-then-i-below
returns-then-i-below c =
    let w = goal.at.returns-then-i-below c in
    cleared-before (two w.At-loop-below) c.loop-below.invariant (over w.After-loop-below)
    (λ z. same_false the_type _ _ (sym c.if-eq.ensures) (c.form_of.ensures ∙ conjunction-form _ z)) c.if-i-below.true

pub returns : goal.returns
returns c =
    let w = goal.at.returns c in
    cleared-after (two w.At-loop-below) c.loop-below.invariant (over w.After-loop-below)
    (λ z. same_false the_type _ _ (sym c.if-eq.ensures) (c.form_of.ensures ∙ conjunction-form _ z)) c.if-i-below.false (number_of c.end_of.ensures)
