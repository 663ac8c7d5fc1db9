-- A star takes its arg, any other row nothing.
use mathlib.Core.Path.{sym, ◌∙◌}
use denote.Enum.Bare.{same_true, same_false}
use borrow.Author.Rules.{rules}
use Rattle.rows.specs.contracts.form.Form.{the_type}
use Rattle.rows.proofs.Rules.{star-form}
use Rattle.rows.proofs.Taken.{takes_none, takes_star}
use Rattle.rows.proofs.taken_by.Goals as goal

pub returns-then-eq : goal.returns-then-eq
returns-then-eq c =
    let star = same_true the_type (search rules) _ _ (sym c.if-eq.ensures) in
    c.from.ensures ∙ c.arg_of.ensures ∙ sym (takes_star _ (sym c.form_of.ensures ∙ star))

pub returns : goal.returns
returns c =
    let apart = same_false the_type _ _ (sym c.if-eq.ensures) in
    sym (takes_none _ _ (λ k. apart (c.form_of.ensures ∙ star-form _ k)))
