-- A row's form is a candidate just if its kind word is 2.
use Prim.Native.Nat.{ℕ}
use mathlib.Core.Path.{◌≡◌, sym, ap, subst, ◌∙◌}
use mathlib.Core.Bool.{not}
use borrow.Author.Tests.{eq-eqb, ne_eqb}
use Rattle.rows.specs.Rows.{form_of}
use Rattle.rows.specs.declared.form.Form.TheVariants as form
use Rattle.rows.proofs.Rules.{KindIs, is-candidate, kind_is, candidate-form}
use Rattle.strategy.proofs.choice.is_stranger.Goals as goal

candidate-kind : (k : ℕ) → form_of k ≡ form.Candidate → k ≡ 2
candidate-kind k e = named (subst (KindIs k) e (kind_is k))
  where
    named : KindIs k form.Candidate → k ≡ 2
    named (is-candidate p) = p

pub returns-in-Candidate : goal.returns-in-Candidate
returns-in-Candidate c = ap not (sym (eq-eqb _ 2 (candidate-kind _ (sym c.form_of.ensures ∙ c.in-Candidate.is))))

pub returns-in_default : goal.returns-in_default
returns-in_default c = ap not (sym (ne_eqb _ 2 (λ e. c.in_default.not-Candidate (c.form_of.ensures ∙ candidate-form _ e))))
