-- For each public function, any two outcomes that its contract allows are equal; of `first_where` where its test has one answer at each
-- number.
use mathlib.Core.Path.{refl}
use mir.Syntax.{Dict}
use denote.RattleType.{RattleType}
use denote.Param.Laws.{Laws}
use Rattle.paper.specs.Outcome.{OneOutcome}
use Rattle.paper.proofs.Outcome.{by-equation}
use Rattle.entries.specs.Inside.Asked.{OneAnswer}
use Rattle.entries.specs.contracts.decided.first_decided.F-Fn.{Ghosts}
use Rattle.entries.specs.contracts.first_where.F-Fn.{Ghosts as GhostsOfAny, words}
use Rattle.entries.proofs.First.{first_once}
use Rattle.entries.proofs as entries
use Rattle.entries.proofs.decided as decided

-- whatever the test is
pub first-decided : (T : RattleType) (L : Laws T) (F : Ghosts T) (d e f g : Dict)
    → OneOutcome (decided.first_decided.Kinds.ps T L) (decided.first_decided.Kinds.r T L)
    (decided.first_decided.Reads.Pre T L F d e f g) (decided.first_decided.Reads.Post T L F d e f g)
first-decided T L F d e f g κs a pre x y v w p q = (first_once pre.1.1 x y p q, refl)

-- whatever the test is, where it has one answer at each number
pub first-where : (T : RattleType) (L : Laws T) (F : GhostsOfAny T) (d e f g : Dict)
    → OneOutcome (entries.first_where.Kinds.ps T L) (entries.first_where.Kinds.r T L)
    (λ κs a. entries.first_where.Reads.Pre T L F d e f g κs a × OneAnswer ((words T F).post a.1.0) a.0)
    (entries.first_where.Reads.Post T L F d e f g)
first-where T L F d e f g κs a pre x y v w p q = (first_once pre.1 x y p q, refl)

pub first-fall : OneOutcome entries.first_fall.Kinds.ps entries.first_fall.Kinds.r entries.first_fall.Reads.Pre entries.first_fall.Reads.Post
first-fall κs a pre x y v w p q = (by-equation p q, refl)

pub are-ascending : OneOutcome entries.are_ascending.Kinds.ps entries.are_ascending.Kinds.r entries.are_ascending.Reads.Pre entries.are_ascending.Reads.Post
are-ascending κs a pre x y v w p q = (by-equation p q, refl)

pub first-beyond : OneOutcome entries.first_beyond.Kinds.ps entries.first_beyond.Kinds.r entries.first_beyond.Reads.Pre entries.first_beyond.Reads.Post
first-beyond κs a pre x y v w p q = (by-equation p q, refl)

pub first-unfit : OneOutcome entries.first_unfit.Kinds.ps entries.first_unfit.Kinds.r entries.first_unfit.Reads.Pre entries.first_unfit.Reads.Post
first-unfit κs a pre x y v w p q = (by-equation p q, refl)
