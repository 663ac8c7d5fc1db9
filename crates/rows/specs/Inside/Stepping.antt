-- How the expressions right under a row come one after another: from s the next one is given, and t is left; where none is to come,
-- s is left.
use Rattle.std.specs.Prelude.{◌-◌, ◌<◌, ◌≡◌, Option, MatchOption}
use Rattle.paper.specs.declared.Label.{Label}
use Rattle.paper.specs.Formula.{ℓ}
use Rattle.rows.specs.Rows.{end_of}
use Rattle.rows.specs.declared.walk.Children.{Children}

abbrev pub Steps : Children → Option Label → Children → Type 0
Steps s r t = MatchOption r ((s.more ≡ 0) × (t ≡ s))
    (λ k. (0 < s.more) × (k ≡ s.at) × (t.rows ≡ s.rows) × (t.more ≡ s.more - 1) × (t.at ≡ ℓ (end_of s.rows.now s.at.0)))
