-- `keys_of` is the walk of the fold that counts keys; what it counts is held at the limit.
use Prim.Native.Nat.{◌≤◌}
use native.Mathlib.Nat.{min-le_left}
use mathlib.Core.Path.{sym, subst, ◌∙◌}
use Rattle.keys.specs.Inside.Keys.{limit}
use Rattle.keys.proofs.KeyNumbers.{keys-held}
use Rattle.keys.proofs.keys_of.Goals as goal

pub returns : goal.returns
returns c =
    let e = c.value_of.ensures in
    (e, subst (λ k. k.more ≤ limit) (sym (e ∙ keys-held _ _ _ _)) (min-le_left limit _))
