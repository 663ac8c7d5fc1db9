-- For each public function, any two outcomes that its contract allows are equal: the answer, and every lent word or byte afterwards.
use mathlib.Core.Path.{refl}
use mir.Syntax.{Dict}
use denote.RattleType.{RattleType}
use denote.Param.Laws.{Laws, IsCopy}
use Rattle.std.specs.declared.clone.Clone.{Ghosts}
use Rattle.paper.specs.Outcome.{OneOutcome}
use Rattle.paper.proofs.Outcome.{by-equation}
use Rattle.filling.proofs as filling

pub fill : (T : RattleType) (L : Laws T) (C : IsCopy T) (K : Ghosts T.Denot) (D : Dict)
    → OneOutcome (filling.fill.Kinds.ps T L C) (filling.fill.Kinds.r T L C) (filling.fill.Reads.Pre T L C K D) (filling.fill.Reads.Post T L C K D)
fill T L C K D κs a pre x y v w p q = (by-equation p.answered q.answered, λ i. (tt, (by-equation p.left_so q.left_so i, tt)))
