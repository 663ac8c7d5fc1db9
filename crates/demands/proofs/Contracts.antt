-- The contracts of the exported functions as they are written (crates/nocturenc/src/exported.rt): what they allow and what they ask.
use Prim.Native.Nat.{ℕ}
use mathlib.Core.List.{List}
use lib.ListN.{length}
use Rattle.answers.specs.Requests.{judge_of, order_of, transition_of, assignments_of}
use Rattle.nocturenc.specs.Packed.{AnswerPacked, FillsPacked}
use Rattle.demands.specs.Allowed.{JudgeAnswers, OrderAnswers, TransitionAnswers, AssignmentsAnswers, AsksNothing}

module _ (words : List ℕ) where
  pub judge-allows : {r : ℕ} → JudgeAnswers words r → AnswerPacked (judge_of words) r
  judge-allows (κs, i, allowed) = allowed

  module _ {lent left : List ℕ} {r : ℕ} where
    pub order-allows : OrderAnswers words lent left r → FillsPacked (order_of words (length lent)) lent left r
    order-allows (κs, i, o, allowed) = allowed

    pub transition-allows : (k : ℕ) → TransitionAnswers words k lent left r → FillsPacked (transition_of words k (length lent)) lent left r
    transition-allows k (κs, i, o, allowed) = allowed

    pub assignments-allow : (k : ℕ) → AssignmentsAnswers words k lent left r → FillsPacked (assignments_of words k (length lent)) lent left r
    assignments-allow k (κs, i, o, allowed) = allowed

pub asks_nothing : AsksNothing
asks_nothing = record { judge = λ κs a. tt; order = λ κs a. tt; transition = λ κs a. tt; assignments = λ κs a. tt }
