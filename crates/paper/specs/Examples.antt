-- Worked examples and non-examples of the definitions (document 01, "What the paper says, in our terms"): small formulas and
-- what the definitions say of them. A comment names the wrong reading that the lines under it rule out. x is variable 0, y is
-- variable 1. proofs/Examples.antt proves every line.
use Rattle.std.specs.Prelude.{ℕ, suc, true, false, cond, ◌&&◌, ◌≡◌, List, [], ◌∷◌, map, eqb, get_or}
use Rattle.paper.specs.Formula.{Label, ℓ, 𝓋, same, has, Formula, Formulas, FALSE, test, conjunction, disjunction, exists, IF, only, ◌⨾◌}
use Rattle.paper.specs.Branch.{branches}
use Rattle.paper.specs.Frozen.{frozen}
use Rattle.paper.specs.Before.{before}
use Rattle.paper.specs.Strategy.{reported_order}
use Rattle.paper.specs.Transition.{slice_by, is_lower, keys, transitions}
use Rattle.paper.specs.Meaning.{Meaning, True}
use Rattle.paper.specs.Carry.{Carried, unset}
use Rattle.paper.specs.Refusals.{refusal, fault_of}
use Rattle.paper.specs.Judgement.{accepted, refused, judge}
use Rattle.paper.specs.Cases.{numbered, star, assign, twice}

-- Truth. The meaning that says yes to these labels and to no others, whatever the values; every set has every number.
abbrev pub yes_to : List ℕ → Meaning
yes_to ls = record { yes = λ l xs. has (numbered ls) l; member = λ l xs x. true }

-- two tests joined: s and s; s or s
abbrev pub joined : (Label → Formulas → Formula) → Formula
joined join = join (ℓ 0) (test (star 1 []) ⨾ only (test (star 2 [])))

pub record TruthOfJoins : Type 0 where
  -- not: a conjunction is true by one child
  pub conjunction_by_both : True (yes_to (1 ∷ 2 ∷ [])) [] (joined conjunction)
  pub conjunction_not_by_one : True (yes_to (1 ∷ [])) [] (joined conjunction) → ⊥
  -- not: a disjunction wants every child, or is true by none
  pub disjunction_by_one : True (yes_to (2 ∷ [])) [] (joined disjunction)
  pub disjunction_not_by_none : True (yes_to (0 ∷ [])) [] (joined disjunction) → ⊥
  -- not: FALSE is asked of the meaning
  pub FALSE-never : True (yes_to (0 ∷ [])) [] (FALSE (ℓ 0)) → ⊥

-- IF s THEN s ELSE s
abbrev pub choice : Formula
choice = IF (ℓ 0) (star 1 []) (test (star 2 [])) (test (star 3 []))

pub record TruthOfIF : Type 0 where
  -- not: the arms swapped
  pub yes_asks_then : True (yes_to (0 ∷ 2 ∷ [])) [] choice
  pub yes_not_else : True (yes_to (0 ∷ 3 ∷ [])) [] choice → ⊥
  pub no_asks_else : True (yes_to (3 ∷ [])) [] choice
  pub no_not_then : True (yes_to (2 ∷ [])) [] choice → ⊥
  -- not: the condition asked at its star
  pub not_at_its_star : True (yes_to (1 ∷ 2 ∷ [])) [] choice → ⊥

-- exists in s: exists in s: s
abbrev pub nested : Formula
nested = exists (ℓ 0) (star 1 []) (exists (ℓ 2) (star 3 []) (test (star 4 [])))

-- the outer set has the number 1 alone, the inner one the number after the outer value alone; yes to the values a, then b
abbrev pub valued : ℕ → ℕ → Meaning
valued a b = record {
  yes = λ l xs. eqb (get_or xs 0 0) a && eqb (get_or xs 1 0) b;
  member = λ l xs x. cond (same l (ℓ 0)) (eqb x 1) (eqb x (suc (get_or xs 0 0)));
}

abbrev pub memberless : Meaning
memberless = record { yes = λ l xs. true; member = λ l xs x. false }

pub record TruthOfExists : Type 0 where
  -- not: bound values innermost first
  pub outermost_first : True (valued 1 2) [] nested
  pub not_innermost_first : True (valued 2 1) [] nested → ⊥
  -- not: a value that is no member
  pub members_only : True memberless [] nested → ⊥

-- x' in s: its label is 0, its star's is 1
pub record TruthOfCandidate : Type 0 where
  -- not: asked at its star
  pub at_its_label : True (yes_to (0 ∷ [])) [] (assign 0 0 [])
  pub not_at_its_star : True (yes_to (1 ∷ [])) [] (assign 0 0 []) → ⊥

-- Slices of IF s THEN (x' in s and s) ELSE (x' in s or s), kept to these labels; `arms` writes such an IF with its four leaves.
abbrev pub arms : Formula → Formula → Formula → Formula → Formula
arms a b c d = IF (ℓ 0) (star 1 []) (conjunction (ℓ 2) (a ⨾ only b)) (disjunction (ℓ 6) (c ⨾ only d))

abbrev pub sliced_to : List ℕ → Formula
sliced_to ls = slice_by (has (numbered ls)) (arms (assign 3 0 []) (test (star 5 [])) (assign 7 0 []) (test (star 9 [])))

pub record Sliced : Type 0 where
  -- not: an ELSE arm, or a THEN arm, never cut
  pub else_cut : sliced_to (3 ∷ 5 ∷ []) ≡ arms (assign 3 0 []) (test (star 5 [])) (FALSE (ℓ 7)) (FALSE (ℓ 9))
  pub then_cut : sliced_to (7 ∷ 9 ∷ []) ≡ arms (FALSE (ℓ 3)) (FALSE (ℓ 5)) (assign 7 0 []) (test (star 9 []))
  -- not: tests, or candidates, never cut
  pub tests_cut : sliced_to (3 ∷ 7 ∷ []) ≡ arms (assign 3 0 []) (FALSE (ℓ 5)) (assign 7 0 []) (FALSE (ℓ 9))
  pub candidates_cut : sliced_to (5 ∷ 9 ∷ []) ≡ arms (FALSE (ℓ 3)) (test (star 5 [])) (FALSE (ℓ 7)) (test (star 9 []))
  -- not: a candidate kept by its star, or a guard cut
  pub by_stars : sliced_to (4 ∷ 8 ∷ []) ≡ arms (FALSE (ℓ 3)) (FALSE (ℓ 5)) (FALSE (ℓ 7)) (FALSE (ℓ 9))
  -- not: nothing cut under an exists
  pub under_exists : slice_by (has []) (exists (ℓ 0) (star 1 []) (test (star 2 []))) ≡ exists (ℓ 0) (star 1 []) (FALSE (ℓ 2))
  -- the transitions of the starred IF s THEN x' in s ELSE x' in s
  pub starred_transitions : transitions (IF (ℓ 0) (star 1 []) (assign 2 0 []) (assign 4 0 [])) (numbered (2 ∷ 4 ∷ []))
      ≡ IF (ℓ 0) (star 1 []) (assign 2 0 []) (FALSE (ℓ 4)) ∷ IF (ℓ 0) (star 1 []) (FALSE (ℓ 2)) (assign 4 0 []) ∷ []

-- Carrying out, from nothing set: these labels in this order.
abbrev pub carries : ℕ → Formula → List ℕ → Type 0
carries #V f ls = Carried #V f unset (numbered ls)

-- x' in s and y' in s(x)
abbrev pub reading : Formula
reading = conjunction (ℓ 0) (assign 1 0 [] ⨾ only (assign 3 1 (0 ∷ [])))

-- x' in s and (exists in s(x): y' in s)
abbrev pub guarded : Formula
guarded = conjunction (ℓ 0) (assign 1 0 [] ⨾ only (exists (ℓ 3) (star 4 (0 ∷ [])) (assign 5 1 [])))

pub record CarriedLists : Type 0 where
  -- not: a read of what is not set, by the star of the assignment or of a guard around it
  pub set_then_read : carries 2 reading (1 ∷ 3 ∷ [])
  pub read_first : carries 2 reading (3 ∷ 1 ∷ []) → ⊥
  pub read_of_itself : carries 1 (assign 0 0 (0 ∷ [])) (0 ∷ []) → ⊥
  pub set_then_guard : carries 2 guarded (1 ∷ 5 ∷ [])
  pub guard_first : carries 2 guarded (5 ∷ 1 ∷ []) → ⊥
  -- not: a variable set twice, by two labels or by one
  pub set_again : carries 1 twice (1 ∷ 3 ∷ []) → ⊥
  pub done_again : carries 1 twice (1 ∷ 1 ∷ []) → ⊥
  -- not: a variable left unset
  pub one_left : carries 2 reading (1 ∷ []) → ⊥
  pub all_left : carries 2 reading [] → ⊥

-- Guards. IF s(x) THEN y' in s ELSE y' in s
abbrev pub guarded_arms : Formula
guarded_arms = IF (ℓ 0) (star 1 (0 ∷ [])) (assign 2 1 []) (assign 4 1 [])

pub record Guards : Type 0 where
  -- not: a guard, or a candidate's star, on a branch
  pub branches_of_IF : branches guarded_arms ≡ map numbered ((2 ∷ []) ∷ (4 ∷ []) ∷ [])
  pub branches_of_exists : branches guarded ≡ map numbered ((1 ∷ 5 ∷ []) ∷ [])
  -- not: a guard frozen for one arm only
  pub frozen_in_then : frozen guarded_arms (ℓ 2) (𝓋 0) ≡ true
  pub frozen_in_else : frozen guarded_arms (ℓ 4) (𝓋 0) ≡ true
  -- not: frozen beside its exists, or a variable that nothing reads
  pub frozen_under_exists : frozen guarded (ℓ 5) (𝓋 0) ≡ true
  pub not_beside_it : frozen guarded (ℓ 1) (𝓋 0) ≡ false
  pub not_unread : frozen guarded (ℓ 5) (𝓋 1) ≡ false

-- Before. Two alternatives that read each other: (x' in s(y) and y' in s) or (y' in s(x) and x' in s)
abbrev pub alternatives : Formula
alternatives =
    disjunction (ℓ 0) (conjunction (ℓ 1) (assign 2 0 (1 ∷ []) ⨾ only (assign 4 1 [])) ⨾ only (conjunction (ℓ 6) (assign 7 1 (0 ∷ []) ⨾ only (assign 9 0 []))))

abbrev pub chosen : List Label
chosen = numbered (2 ∷ 4 ∷ 7 ∷ 9 ∷ [])

pub record BeforeAndOrder : Type 0 where
  -- not: before without a shared branch, which would close a cycle of 2 and 7
  pub on_one_branch : before alternatives chosen (ℓ 4) (ℓ 2) ≡ true
  pub not_across : before alternatives chosen (ℓ 7) (ℓ 2) ≡ false
  pub not_across_back : before alternatives chosen (ℓ 2) (ℓ 7) ≡ false
  pub alternatives_accepted : judge 2 alternatives chosen ≡ accepted 2 11 4 2
  -- not: the reader before what it reads, or a label that is not chosen
  pub not_the_reader : before alternatives chosen (ℓ 2) (ℓ 4) ≡ false
  pub not_unchosen : before alternatives (numbered (2 ∷ [])) (ℓ 4) (ℓ 2) ≡ false
  -- not: the highest label that is ready
  pub lowest_ready_first : reported_order alternatives chosen ≡ numbered (4 ∷ 2 ∷ 9 ∷ 7 ∷ [])

-- Keys. Two conjoined disjunctions: (x' in s or x' in s) and (y' in s or y' in s)
abbrev pub square : Formula
square =
    conjunction (ℓ 0) (disjunction (ℓ 1) (assign 2 0 [] ⨾ only (assign 4 0 [])) ⨾ only (disjunction (ℓ 6) (assign 7 1 [] ⨾ only (assign 9 1 []))))

pub record Numbering : Type 0 where
  -- not: the last differing label decides, or higher first
  pub first_decides : is_lower (numbered (1 ∷ 9 ∷ [])) (numbered (2 ∷ 3 ∷ [])) ≡ true
  pub not_the_last : is_lower (numbered (2 ∷ 3 ∷ [])) (numbered (1 ∷ 9 ∷ [])) ≡ false
  pub then_the_next : is_lower (numbered (1 ∷ 2 ∷ [])) (numbered (1 ∷ 3 ∷ [])) ≡ true
  pub not_itself : is_lower (numbered (1 ∷ 2 ∷ [])) (numbered (1 ∷ 2 ∷ [])) ≡ false
  pub keys_of_square : keys square (numbered (2 ∷ 4 ∷ 7 ∷ 9 ∷ [])) ≡ map numbered ((2 ∷ 7 ∷ []) ∷ (2 ∷ 9 ∷ []) ∷ (4 ∷ 7 ∷ []) ∷ (4 ∷ 9 ∷ []) ∷ [])

-- Places. x' in s(x) and x' in s and y' in s(y) and y' in s
abbrev pub crowded : Formula
crowded = conjunction (ℓ 0) (assign 1 0 (0 ∷ []) ⨾ assign 3 0 [] ⨾ assign 5 1 (1 ∷ []) ⨾ only (assign 7 1 []))

pub record Places : Type 0 where
  -- not: the highest offender
  pub strangers_lowest : judge 2 crowded (numbered (1 ∷ 2 ∷ 5 ∷ 6 ∷ [])) ≡ refused (refusal (fault_of 10) 2)
  pub missed_lowest : judge 2 crowded [] ≡ refused (refusal (fault_of 11) 0)
  pub doubled_lowest : judge 2 crowded (numbered (1 ∷ 3 ∷ 5 ∷ 7 ∷ [])) ≡ refused (refusal (fault_of 12) 0)
  pub on_cycle_lowest : judge 2 crowded (numbered (1 ∷ 5 ∷ [])) ≡ refused (refusal (fault_of 13) 1)
  -- not: a label that hangs on a cycle, as 1 in y' in s(x) and x' in s(x)
  pub not_hanging_on_one :
      judge 2 (conjunction (ℓ 0) (assign 1 1 (0 ∷ []) ⨾ only (assign 3 0 (0 ∷ [])))) (numbered (1 ∷ 3 ∷ [])) ≡ refused (refusal (fault_of 13) 3)
