-- Why a request that fills refuses: it fills, or it refuses for a reason of which P holds, where P holds of each that the judgement and its
-- own checks refuse for.
use Prim.Native.Nat.{ℕ}
use mathlib.Core.Bool.{Bool, true, false, cond}
use mathlib.Core.List.{List}
use lib.Dec.{ltb, leb, eqb}
use lib.ListN.{length}
use Rattle.std.specs.Prelude.{Result, Ok, Err}
use Rattle.paper.specs.declared.Refusal.{Refusal}
use Rattle.paper.specs.declared.refusals.Fault.{Fault}
use Rattle.paper.specs.declared.refusals.Fault.TheVariants.{NoSuchTransition, OutTooShort, Uneven}
use Rattle.paper.specs.Refusals.{refusal}
use Rattle.table.specs.declared.Layout.{Layout}
use Rattle.filling.specs.Filling.{Outcome, refuses, fills, unless_short}
use Rattle.strategy.specs.declared.Accepted.{Accepted}
use Rattle.strategy.specs.Judge.{judged_of}
use Rattle.answers.specs.Requests.{key_of, outcome_of, of_transition}
use Rattle.demands.proofs.RefusalNumbers.{JudgesBy, AnswerGives, judged-gives}

module _ (P : Fault → Type 0) where
  abbrev pub RefusesBy : {T : Type 0} → Outcome T → Type 0
  RefusesBy (refuses x) = P x.fault
  RefusesBy (fills ws) = Unit {0}

  -- the judgement, and then what follows it
  pub judged-by : ((fault : Fault) → JudgesBy fault → P fault) → (words : List ℕ) (next : Layout → ℕ → Outcome ℕ)
      → ((l : Layout) (count : ℕ) → RefusesBy (next l count)) → RefusesBy (outcome_of (judged_of words) next)
  unfolding outcome_of
  judged-by more words next after = go (judged_of words) (judged-gives words)
    where
      go : (j : Result Accepted Refusal) → AnswerGives j → RefusesBy (outcome_of j next)
      go (Err x) g = more x.fault g
      go (Ok a) g = after a.layout a.transitions

  module _ (short : P OutTooShort) where
    pub short-by : {T : Type 0} (room : ℕ) (ws : List T) → RefusesBy (unless_short room ws)
    short-by room ws = go (ltb room (length ws))
      where
        go : (b : Bool) → RefusesBy (cond b (refuses (refusal OutTooShort (length ws))) (fills ws))
        go true = short
        go false = tt

    pub transition-by : P NoSuchTransition → P Uneven → (what : List ℕ → Layout → ℕ → List ℕ) (words : List ℕ) (k room : ℕ) (l : Layout) (count : ℕ)
        → RefusesBy (of_transition what words k room l count)
    unfolding of_transition
    transition-by absent uneven what words k room l count = go (leb count k) (eqb (length (key_of words l k)) l.variables)
      where
        go : (a w : Bool)
            → RefusesBy (cond a (refuses (refusal NoSuchTransition count)) (cond w (unless_short room (what words l k)) (refuses (refusal Uneven k))))
        go true w = absent
        go false true = short-by room (what words l k)
        go false false = uneven
