-- The refusal numbers, in document 01's order of checks ("Refusal numbers, in the order of checks"): each reason to refuse has one, and
-- the header for C has its name in capitals; and the refusal for a reason, at a place.
use Rattle.std.specs.Prelude.{ℕ, cond, List, [], ◌∷◌, Result, Ok, Err, eqb}
use Rattle.paper.specs.declared.refusals.Fault.{Fault}
use Rattle.paper.specs.declared.refusals.Fault.TheVariants.{Absent, CountOutOfRange, NameNotAbove, ReadBeyond, RowBroken, ReadsLeft}
use Rattle.paper.specs.declared.refusals.Fault.TheVariants.{TooDeep, EntryUnfit, WordsFollow, NoCandidate, VariableMissed, VariableTwice}
use Rattle.paper.specs.declared.refusals.Fault.TheVariants.{NoOrder, TooMany, NoSuchTransition, Uneven, OutTooShort, OddBytes, Other}
pub use Rattle.paper.specs.declared.Refusal.{Refusal}

abbrev pub fault_number : Fault → ℕ
-- a count or the rest of its section is absent
fault_number Absent = 1
-- a count is outside its range
fault_number CountOutOfRange = 2
-- a name is not above the one before
fault_number NameNotAbove = 4
-- a read is V or more
fault_number ReadBeyond = 5
-- a row breaks its rules, depth apart
fault_number RowBroken = 6
-- reads are left over
fault_number ReadsLeft = 7
-- a row is deeper than 64
fault_number TooDeep = 8
-- a strategy entry is N or more, or not above the one before
fault_number EntryUnfit = 9
-- words follow section 4
fault_number WordsFollow = 3
-- a chosen label is no candidate
fault_number NoCandidate = 10
-- a variable has no chosen label on some branch
fault_number VariableMissed = 11
-- a variable has two or more on some branch
fault_number VariableTwice = 12
-- no order exists
fault_number NoOrder = 13
-- more than 65,535 transitions
fault_number TooMany = 14
-- number k is not below the count
fault_number NoSuchTransition = 15
-- transition k has not V chosen labels
fault_number Uneven = 18
-- the lent slice is too short
fault_number OutTooShort = 16
-- the lister was given an odd number of bytes
fault_number OddBytes = 17
-- a number of no reason
fault_number (Other number) = number

-- all reasons, in the order of checks; and the one with a number, which has it whichever number it is (proofs/Faults.antt)
abbrev pub faults : List Fault
faults =
    Absent ∷ CountOutOfRange ∷ NameNotAbove ∷ ReadBeyond ∷ RowBroken ∷ ReadsLeft ∷ TooDeep ∷ EntryUnfit ∷ WordsFollow
    ∷ NoCandidate ∷ VariableMissed ∷ VariableTwice ∷ NoOrder ∷ TooMany ∷ NoSuchTransition ∷ Uneven ∷ OutTooShort ∷ OddBytes ∷ []

abbrev pub fault_among : List Fault → ℕ → Fault
fault_among [] number = Other number
fault_among (f ∷ fs) number = cond (eqb (fault_number f) number) f (fault_among fs number)

abbrev pub fault_of : ℕ → Fault
fault_of = fault_among faults

-- the refusal for this reason, at this place
abbrev pub refusal : Fault → ℕ → Refusal
refusal fault place = record { fault = fault; place = place }

-- the answer is a refusal
abbrev pub IsRefusal : {A : Type 0} → Result A Refusal → Type 0
IsRefusal (Ok a) = ⊥
IsRefusal (Err r) = Unit {0}
