-- A refusal writes nothing: for each public function that lends and can refuse, whatever refusal its contract allows, every lent word
-- or byte is left as it was.
use mathlib.Core.Path.{◌≡◌, subst}
use mathlib.Core.List.{List}
use mir.Syntax.{Dict}
use denote.RattleType.{RattleType}
use denote.Param.Laws.{Laws, IsCopy}
use Rattle.std.specs.Prelude.{Result}
use Rattle.std.specs.declared.clone.Clone.{Ghosts}
use Rattle.paper.specs.Outcome.{RefusalLeaves}
use Rattle.paper.specs.declared.Refusal.{Refusal}
use Rattle.paper.specs.Refusals.{IsRefusal}
use Rattle.filling.specs.declared.Length.{Length}
use Rattle.filling.specs.Filling.{Outcome, refuses, fills, Fills}
use Rattle.filling.proofs as filling

pub as_it_was : {T : Type 0} (o : Outcome T) {lent left : List T} {r : Result Length Refusal} → Fills o lent left r → IsRefusal r → left ≡ lent
as_it_was (refuses r) f h = f.left_so
as_it_was (fills ws) f h = absurd (subst IsRefusal f.answered h)

pub fill : (T : RattleType) (L : Laws T) (C : IsCopy T) (K : Ghosts T.Denot) (D : Dict)
    → RefusalLeaves (filling.fill.Kinds.ps T L C) (filling.fill.Kinds.r T L C) (λ κs. IsRefusal) (λ κs a. (tt, (a.1.0.now, tt)))
    (filling.fill.Reads.Pre T L C K D) (filling.fill.Reads.Post T L C K D)
fill T L C K D κs a pre x v p h = λ i. (tt, (as_it_was _ p h i, tt))
