-- What a lent slice holds once some words are written at its front and the others are left.
use Rattle.std.specs.Prelude.{List, ◌++◌, length, drop}

-- words in front of what was there: the first ones are these, those behind them stay
abbrev pub in_front : {T : Type 0} → List T → List T → List T
in_front ws lent = ws ++ drop (length ws) lent
