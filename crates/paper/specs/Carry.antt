-- Carrying out assignments in an order (document 01, "Reported order"; the mission's demand 3).
use Rattle.std.specs.Prelude.{ℕ, ◌<◌, Bool, true, false, ◌||◌, ◌≡◌, List, [], ◌∷◌}
use Rattle.paper.specs.Formula.{Label, Variable, Formula, assigns}
use Rattle.paper.specs.Frozen.{frozen}

-- The assignments ls in turn, the variables of `set` being set: each, with the guards around it, reads only variables
-- that are set, none is set twice, and all #V are set at the end.
abbrev pub Carried : ℕ → Formula → (Variable → Bool) → List Label → Type 0
Carried #V f set [] = (v : Variable) → v.0 < #V → set v ≡ true
Carried #V f set (l ∷ ls) =
    ((v : Variable) → frozen f l v ≡ true → set v ≡ true) ×
    ((v : Variable) → assigns f v l ≡ true → set v ≡ false) ×
    Carried #V f (λ v. set v || assigns f v l) ls

-- nothing set
abbrev pub unset : Variable → Bool
unset v = false
