-- An index that is there and open is looked at; no other calls.
use mathlib.Core.Path.{sym, ◌∙◌}
use Rattle.fingers.proofs.Looking.{look-open, look-shut, look-past}
use Rattle.fingers.proofs.Following.look.Goals as goal

pub returns-then-is_outside : goal.returns-then-is_outside
returns-then-is_outside c =
    look-open _ _ _ _ _ _ _ _ c.if-k-self.true (sym c.is_outside.ensures ∙ c.if-is_outside.true) c.look_at.ensures

pub returns-else-is_outside : goal.returns-else-is_outside
returns-else-is_outside c = look-shut _ _ _ _ _ _ _ (sym c.is_outside.ensures ∙ c.if-is_outside.false) c.requires.2

pub returns-else-k-self : goal.returns-else-k-self
returns-else-k-self c = look-past _ _ _ _ _ _ _ c.if-k-self.false c.requires.2
