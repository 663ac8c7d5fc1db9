-- An answer packed in one 64-bit number, for C (document 01: "All four can be called from the workshop's C table browser"). The
-- top byte is the refusal number, 0 for accepted. Refused: the place in the low 32 bits. Accepted judge: the transition count
-- from bit 0, S from bit 16, N from bit 29, V from bit 42. Accepted others: the number of words or bytes filled.
use Rattle.std.specs.Prelude.{ℕ, ◌+◌, ◌*◌, ◌/◌, ◌%◌, ◌^◌, List, ◌≡◌, Result, Ok, Err}
use Rattle.paper.specs.declared.Refusal.{Refusal}
use Rattle.filling.specs.declared.Length.{Length}
use Rattle.paper.specs.Refusals.{fault_number}
use Rattle.filling.specs.Filling.{Outcome, filled_of, after}
use Rattle.answers.specs.declared.Counts.{Counts}

abbrev pub refused_as : ℕ → ℕ → ℕ
refused_as number place = number * 2 ^ 56 + place

abbrev pub counts_of : Counts → ℕ
counts_of c = c.variables * 2 ^ 42 + c.rows * 2 ^ 29 + c.chosen * 2 ^ 16 + c.transitions

unfoldable pub packed_answer : Result Counts Refusal → ℕ
packed_answer (Ok c) = counts_of c
packed_answer (Err r) = refused_as (fault_number r.fault) r.place

unfoldable pub packed_filled : Result Length Refusal → ℕ
packed_filled (Ok l) = l.count
packed_filled (Err r) = refused_as (fault_number r.fault) r.place

-- a packed answer is a refusal: its top byte is not 0
abbrev pub IsPackedRefusal : ℕ → Type 0
IsPackedRefusal n = n / 2 ^ 56 ≡ 0 → ⊥

-- what C reads from an answer: the refusal number and its place, with 0 in the bits between; the counts, where it is accepted;
-- the number of words or bytes filled, where a request filled them
pub record ReadRefusal (r : Refusal) (n : ℕ) : Type 0 where
  pub number_is : n / 2 ^ 56 ≡ fault_number r.fault
  pub between : n / 2 ^ 32 % 2 ^ 24 ≡ 0
  pub place_is : n % 2 ^ 32 ≡ r.place

pub record ReadCounts (c : Counts) (n : ℕ) : Type 0 where
  pub no_refusal : n / 2 ^ 56 ≡ 0
  pub variables_are : n / 2 ^ 42 ≡ c.variables
  pub rows_are : n / 2 ^ 29 % 2 ^ 13 ≡ c.rows
  pub chosen_are : n / 2 ^ 16 % 2 ^ 13 ≡ c.chosen
  pub transitions_are : n % 2 ^ 16 ≡ c.transitions

pub record ReadFilled (l : Length) (n : ℕ) : Type 0 where
  pub no_refusal : n / 2 ^ 56 ≡ 0
  pub count_is : n ≡ l.count

abbrev pub ReadAnswer : Result Counts Refusal → ℕ → Type 0
ReadAnswer (Ok c) n = ReadCounts c n
ReadAnswer (Err r) n = ReadRefusal r n

abbrev pub ReadFilling : Result Length Refusal → ℕ → Type 0
ReadFilling (Ok l) n = ReadFilled l n
ReadFilling (Err r) n = ReadRefusal r n

-- an answer in one number, from which it can be read; and what a request that fills leaves
pub record AnswerPacked (a : Result Counts Refusal) (n : ℕ) : Type 0 where
  pub answered : n ≡ packed_answer a
  pub read_so : ReadAnswer a n

pub record FillsPacked (o : Outcome ℕ) (lent left : List ℕ) (n : ℕ) : Type 0 where
  pub answered : n ≡ packed_filled (filled_of o)
  pub read_so : ReadFilling (filled_of o) n
  pub left_so : left ≡ after o lent
