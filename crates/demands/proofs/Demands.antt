-- The mission's demands (specs/Demands.antt). Words that nocturenc_judge accepts have a judgement that accepts, and the table that
-- they write is the one read from them: what the other files prove of that table is so of every table that they write.
use Prim.Native.Nat.{ℕ}
use mathlib.Core.Path.{◌≡◌, subst}
use mathlib.Core.List.{List}
use Rattle.written.specs.Written.{Table}
use Rattle.written.specs.Tables.{table_in}
use Rattle.strategy.specs.declared.Accepted as Verdict
use Rattle.strategy.specs.Judge.{judged_of}
use Rattle.answers.specs.Requests.{judge_of}
use Rattle.nocturenc.specs.Packed.{AnswerPacked}
use Rattle.demands.specs.Demands.{Accepted, TransitionsListed, CarriedOut, TrueByTransitions, Demand1, Demand2, Demand3}
use Rattle.demands.proofs.Contracts.{judge-allows}
use Rattle.demands.proofs.Answered as Answered
use Rattle.demands.proofs.Judged.{is-accepted, table_is, judged-exactly}
use Rattle.demands.proofs.Listed as Listed
use Rattle.demands.proofs.Carried as Carried
use Rattle.std.specs.Prelude.{Ok}

of-every-table : (Holds : List ℕ → ℕ → Table → Type 0)
    → ((words : List ℕ) (a : Verdict.Accepted) (e : judged_of words ≡ Ok a) (r : ℕ) → AnswerPacked (judge_of words) r
    → Holds words r (table_in words a.layout))
    → (words : List ℕ) (r : ℕ) (t : Table) → Accepted words r t → Holds words r t
of-every-table Holds so words r t h =
    let p = judge-allows words h.answered in
    let (a, e) = is-accepted words r p h.accepted in
    subst (Holds words r) (table_is words a e t h.within h.writes) (so words a e r p)

pub demand-1 : Demand1
demand-1 = Answered.demand-1

pub demand-2 : Demand2
demand-2 = record {
  judged = λ words r q. judged-exactly words r (judge-allows words q);
  transitions = of-every-table TransitionsListed Listed.transitions-listed;
}

pub demand-3 : Demand3
demand-3 = record {
  carried_out = of-every-table CarriedOut Carried.carried-out-in-order;
  true_by_transitions = of-every-table TrueByTransitions Listed.true_by_transitions;
}
