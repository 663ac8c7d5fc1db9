-- A row keeps its rules: its end and its `from` are tested first, and then what its kind asks.
use Prim.Native.Nat.{ℕ}
use mathlib.Core.Path.{◌≡◌, refl, sym, ap, ◌∙◌}
use mathlib.Core.Bool.{Bool, true}
use native.Mathlib.Omega.{arith}
use Rattle.rows.specs.Rows.{end_of, ends_within}
use Rattle.rows.proofs.Rules.{number_of, ends-le, ends-badly, from-elsewhere, by_kind}
use Rattle.paper.specs.Formula.{ℓ}
use Rattle.paper.specs.declared.Label.{Label}
use Rattle.rows.proofs.keeps_rules.Goals.{Else-from-taken}
use Rattle.rows.proofs.keeps_rules.Goals as goal

-- the end is tested as the definition tests it
tested : (n at : ℕ) {end : Label} {e : ℕ} {t : Bool} → t ≡ ends_within n at end.0 → end ≡ ℓ e → t ≡ ends_within n at e
tested n at p q = p ∙ ap (ends_within n at) (number_of q)

ends-well : (c : Else-from-taken) → ends_within c.args.n c.args.at.0 (end_of c.args.rows.now c.args.at.0) ≡ true
ends-well c = sym (tested _ _ c.ends_within.ensures c.end_of-end.ensures) ∙ c.if-not-ends_within.false

pub returns-then-not-ends_within : goal.returns-then-not-ends_within
returns-then-not-ends_within c = sym (ends-badly _ _ _ _ _ (sym (tested _ _ c.ends_within.ensures c.end_of-end.ensures) ∙ c.if-not-ends_within.true))

pub returns-then-from-taken : goal.returns-then-from-taken
returns-then-from-taken c = sym (from-elsewhere _ _ _ _ _ (λ e. omega arith))

pub invariant_of-keeps_kind-clause-within : goal.invariant_of-keeps_kind-clause-within
invariant_of-keeps_kind-clause-within c =
    let e = number_of c.end_of-end.ensures in
    let within = ends-le _ _ _ (ends-well (goal.at.invariant_of-keeps_kind-clause-within c).Else-from-taken) in
    omega arith

pub returns : goal.returns
returns c =
    c.keeps_kind.ensures ∙ sym (by_kind _ _ _ _ _ _ (ends-well (goal.at.returns c).Else-from-taken) (omega arith) refl)
