-- Each arm asks what the rule of its kind asks.
use Prim.Native.Nat.{ℕ, ◌<◌}
use native.Mathlib.Omega.{arith}
use mathlib.Core.Path.{◌≡◌, refl, sym, ap, ◌∙◌}
use Rattle.rows.specs.Rows.{form_of, keeps_form, join_rule}
use Rattle.rows.specs.declared.form.Form.TheVariants as form
use mathlib.Core.List.{List}
use Rattle.rows.proofs.Forms.{by_form}
use Rattle.rows.proofs.Rules.{no-form}
use Rattle.rows.proofs.Row.keeps_kind.Goals as goal

-- a conjunction's rule is a disjunction's
joins : (rows reads : List ℕ) (#V i k : ℕ) → 2 < k → k < 5 → join_rule rows i ≡ keeps_form rows reads #V i (form_of k)
joins rows reads #V i k low high =
    by_form (λ F. join_rule rows i ≡ keeps_form rows reads #V i F) k (λ e. absurd (omega arith)) (λ e. absurd (omega arith)) (λ e. absurd (omega arith))
    (λ e. refl) (λ e. refl) (λ e. absurd (omega arith)) (λ e. absurd (omega arith)) (λ h. absurd (omega arith))

pub returns-in-0 : goal.returns-in-0
unfolding form_of
returns-in-0 c = simp (← c.kind_of-kind.ensures, c.in-0.is) c.keeps_false.ensures

pub returns-in-1 : goal.returns-in-1
unfolding form_of
returns-in-1 c = simp (← c.kind_of-kind.ensures, c.in-1.is) c.keeps_star.ensures

pub returns-in-2 : goal.returns-in-2
unfolding form_of
returns-in-2 c = simp (← c.kind_of-kind.ensures, c.in-2.is) c.keeps_candidate.ensures

pub returns-in-3-to-4 : goal.returns-in-3-to-4
returns-in-3-to-4 c = c.keeps_join.ensures ∙ joins _ _ _ _ _ (omega arith) (omega arith)

pub returns-in-5 : goal.returns-in-5
unfolding form_of
returns-in-5 c = simp (← c.kind_of-kind.ensures, c.in-5.is) c.keeps_bound.ensures

pub returns-in-6 : goal.returns-in-6
unfolding form_of
returns-in-6 c = simp (← c.kind_of-kind.ensures, c.in-6.is) c.keeps_bound-in-6.ensures

pub returns-in-7-to-65535 : goal.returns-in-7-to-65535
returns-in-7-to-65535 c =
    let k = c.kind_of-kind.result in
    let none : form_of k ≡ form.Unknown = no-form k (λ e. omega arith) (λ e. omega arith) (λ e. omega arith) (λ e. omega arith)
    (λ e. omega arith) (λ e. omega arith) (λ e. omega arith) in
    sym (ap (keeps_form _ _ _ _) (ap form_of (sym c.kind_of-kind.ensures) ∙ none))
