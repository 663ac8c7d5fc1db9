-- The children begin with a star: a row with no room for a first child has none to meet its end.
use Prim.Native.Nat.{ℕ, ◌+◌, ◌<◌, ◌≤◌}
use native.Mathlib.Omega.{arith}
use mathlib.Core.Path.{◌≡◌, sym, ◌∙◌}
use mathlib.Core.Bool.{false, and-false}
use mathlib.Core.List.{List}
use denote.Enum.Bare.{same_true, same_false}
use borrow.Author.Rules.{rules}
use Rattle.rows.specs.contracts.form.Form.{the_type}
use Rattle.rows.specs.Rows.{end_of, guarded}
use Rattle.rows.proofs.Rules.{star-form, guarded_by, unguarded}
use Rattle.rows.proofs.Meets.{meets-past}
use Rattle.rows.proofs.Row.guard_meets.Goals as goal

no_room : (rows : List ℕ) (i m : ℕ) → 0 < m → end_of rows i ≤ i + 1 → guarded rows i m ≡ false
no_room rows i m some h = simp (meets-past rows (end_of rows i) (i + 1) m some h, and-false)

pub returns-then-self-first : goal.returns-then-self-first
returns-then-self-first c =
    let s = c.args.self in
    let e = s.ends in
    sym (no_room s.rows.now s.at.0 c.args.m (omega arith) (omega arith))

pub returns-then-eq : goal.returns-then-eq
returns-then-eq c =
    let s = c.args.self in
    let star = same_true the_type (search rules) _ _ (sym c.if-eq.ensures) in
    (rw s.ends at c.children_meet.ensures) ∙ sym (guarded_by s.rows.now s.at.0 c.args.m (sym c.form_of.ensures ∙ star))

pub returns-else-eq : goal.returns-else-eq
returns-else-eq c =
    let s = c.args.self in
    let apart = same_false the_type _ _ (sym c.if-eq.ensures) in
    c.if-eq.false ∙ sym (unguarded s.rows.now s.at.0 c.args.m (λ k. apart (c.form_of.ensures ∙ star-form _ k)))
