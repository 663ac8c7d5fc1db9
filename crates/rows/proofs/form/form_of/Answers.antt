-- The kind word decides: each arm has the form that its word names.
use native.Mathlib.Omega.{arith}
use mathlib.Core.Path.{sym}
use Rattle.rows.specs.Rows.{form_of}
use Rattle.rows.proofs.Rules.{no-form}
use Rattle.rows.proofs.form.form_of.Goals as goal

pub returns-in-0 : goal.returns-in-0
unfolding form_of
returns-in-0 c = rw (← c.kind_of-kind.ensures, c.in-0.is)

pub returns-in-1 : goal.returns-in-1
unfolding form_of
returns-in-1 c = rw (← c.kind_of-kind.ensures, c.in-1.is)

pub returns-in-2 : goal.returns-in-2
unfolding form_of
returns-in-2 c = rw (← c.kind_of-kind.ensures, c.in-2.is)

pub returns-in-3 : goal.returns-in-3
unfolding form_of
returns-in-3 c = rw (← c.kind_of-kind.ensures, c.in-3.is)

pub returns-in-4 : goal.returns-in-4
unfolding form_of
returns-in-4 c = rw (← c.kind_of-kind.ensures, c.in-4.is)

pub returns-in-5 : goal.returns-in-5
unfolding form_of
returns-in-5 c = rw (← c.kind_of-kind.ensures, c.in-5.is)

pub returns-in-6 : goal.returns-in-6
unfolding form_of
returns-in-6 c = rw (← c.kind_of-kind.ensures, c.in-6.is)

pub returns-in-7-to-65535 : goal.returns-in-7-to-65535
returns-in-7-to-65535 c =
    sym (no-form _ (λ e. omega arith) (λ e. omega arith) (λ e. omega arith) (λ e. omega arith) (λ e. omega arith) (λ e. omega arith) (λ e. omega arith))
