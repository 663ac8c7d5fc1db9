-- The buffer that is lent is as long as the longest input that is read.
use mathlib.Core.Path.{refl}
use Rattle.lister.proofs.main.Goals as goal

pub run-requires : goal.run-requires
run-requires c = refl
