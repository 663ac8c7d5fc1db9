-- The verdict on a table's words: what is known of an accepted table, or a refusal.
use Rattle.std.specs.Prelude.{ℕ, Result, Ok, Err}
use Rattle.paper.specs.declared.refusals.Fault.{Fault}
use Rattle.paper.specs.Refusals.{refusal}
use Rattle.paper.specs.Judgement.{Judgement, accepted, refused}
use Rattle.table.specs.declared.Layout.{Layout}
use Rattle.paper.specs.declared.Refusal.{Refusal}
use Rattle.strategy.specs.declared.Accepted.{Accepted}

-- an acceptance, and a refusal, as answers
abbrev pub accepted_with : Layout → ℕ → Result Accepted Refusal
accepted_with l t = Ok (record { layout = l; transitions = t })

abbrev pub refused_at : Fault → ℕ → Result Accepted Refusal
refused_at fault place = Err (refusal fault place)

-- a judgement of the formula of words laid out so, as an answer
abbrev pub as_judged : Layout → Judgement → Result Accepted Refusal
as_judged l (accepted v n s t) = accepted_with l t
as_judged l (refused r) = Err r
