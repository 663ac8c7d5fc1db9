-- The words of bytes ("The formula table") and the judgement of bytes (refusal 17, and then that of their words): the answer, and
-- what is left in the words lent for the order.
use Rattle.std.specs.Prelude.{ℕ, ◌+◌, ◌*◌, ◌/◌, ◌%◌, Bool, cond, List, [], ◌∷◌, ◌≡◌, eqb, length, Result}
use Rattle.paper.specs.declared.refusals.Fault.TheVariants.{OddBytes}
use Rattle.strategy.specs.Verdict.{refused_at}
use Rattle.strategy.specs.Judge.{left_by, order_in, judged_of}
use Rattle.paper.specs.declared.Refusal.{Refusal}
use Rattle.strategy.specs.declared.Accepted.{Accepted}

-- the words of bytes, low byte first; a byte left over makes none
unfoldable pub words_of : List ℕ → List ℕ
words_of [] = []
words_of (low ∷ []) = []
words_of (low ∷ high ∷ bytes) = (low + 256 * high) ∷ words_of bytes

abbrev pub are_odd : List ℕ → Bool
are_odd bytes = eqb (length bytes % 2) 1

-- the judgement: 17 first, on the bytes, and then that of their words ("Refusal numbers, in the order of checks")
unfoldable pub judged_bytes : List ℕ → Result Accepted Refusal
judged_bytes bytes = cond (are_odd bytes) (refused_at OddBytes (length bytes / 2)) (judged_of (words_of bytes))

-- what is left in words lent for the reported order
unfoldable pub order_left_of : List ℕ → List ℕ → List ℕ
order_left_of bytes lent = left_by (judged_bytes bytes) (order_in (words_of bytes)) lent

-- the answer to the bytes, and what is left in the words lent for the order
pub record JudgedBytes (bytes lent left : List ℕ) (r : Result Accepted Refusal) : Type 0 where
  pub answered : r ≡ judged_bytes bytes
  pub left_so : left ≡ order_left_of bytes lent
