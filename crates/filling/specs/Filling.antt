-- A request that fills a lent slice (document 01, "Requests and what they give"): it refuses and leaves the slice as it was, or it
-- writes at the slice's front and leaves what lies beyond. The slice is of words or of bytes.
use Rattle.std.specs.Prelude.{ℕ, cond, List, ◌≡◌, ltb, length, Result, Ok, Err}
use Rattle.paper.specs.declared.Refusal.{Refusal}
use Rattle.paper.specs.declared.refusals.Fault.TheVariants.{OutTooShort}
use Rattle.paper.specs.Refusals.{refusal}
use Rattle.entries.specs.Front.{in_front}
use Rattle.filling.specs.declared.Length.{Length}

-- What a request that fills does: a refusal, or what stands at the front of the lent slice.
pub data Outcome (T : Type 0) : Type 0 where
  refuses : Refusal → Outcome T
  fills : List T → Outcome T

module _ {T : Type 0} where
  -- 16: the lent slice is too short
  abbrev pub unless_short : ℕ → List T → Outcome T
  unless_short room ws = cond (ltb room (length ws)) (refuses (refusal OutTooShort (length ws))) (fills ws)

  -- the answer, and the lent slice afterwards: a refusal leaves it as it was, and what lies beyond what is filled stays
  abbrev pub filled_of : Outcome T → Result Length Refusal
  filled_of (refuses r) = Err r
  filled_of (fills ws) = Ok (record { count = length ws })

  abbrev pub after : Outcome T → List T → List T
  after (refuses r) out = out
  after (fills ws) out = in_front ws out

  -- what a request that fills answers and leaves
  pub record Fills (o : Outcome T) (lent left : List T) (r : Result Length Refusal) : Type 0 where
    pub answered : r ≡ filled_of o
    pub left_so : left ≡ after o lent
