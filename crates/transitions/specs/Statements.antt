-- What is marked and assigned of transition k of a formula with a minimal covering, in the terms of document 001 (document 01,
-- "Key", "Numbering" and "Requests"); proofs/Numbered.antt proves it.
use Rattle.std.specs.Prelude.{ℕ, ◌<◌, Bool, ◌≡◌, length}
use mathlib.Core.List.{List, map, Memᴰ}
use Rattle.paper.specs.declared.Label.{Label}
use Rattle.paper.specs.Lists.{those}
use Rattle.paper.specs.Formula.{ℓ, has, Formula, Rising, WellFormed}
use Rattle.paper.specs.Order.{OrderOf}
use Rattle.paper.specs.Strategy.{Homogeneous, MinimalCovering}
use Rattle.paper.specs.Transition.{is_kept, class, keys, key_at}
use Rattle.paper.specs.Inside.Structure.Kept.{kept_at}
use Rattle.marks.specs.Inside.Chosen.{AllBelow}
use Rattle.transitions.specs.Inside.Kept.{bytes_of}
use Rattle.transitions.specs.Inside.Assigned.{kept_of}

-- the bytes of transition k for n labels
abbrev pub kth_bytes : Formula → List Label → ℕ → ℕ → List ℕ
kth_bytes f A k n = bytes_of (has (kept_at A f k)) n

pub record TransitionSays (#V : ℕ) (f : Formula) (A : List Label) (k : ℕ) : Type 0 where
  -- the bytes are 1 for the labels that the class of that key keeps
  pub marks_are : (n : ℕ) → kth_bytes f A k n ≡ bytes_of (is_kept f A (key_at f A k)) n
  -- the chosen labels among the kept are the key, and it has one for each variable
  pub chosen_are : (n : ℕ) (chosen : List ℕ) → A ≡ map ℓ chosen → AllBelow n chosen → map ℓ (kept_of (kth_bytes f A k n) chosen) ≡ key_at f A k
  pub key_has : length (key_at f A k) ≡ #V
  -- in any order of A they are those of any branch of the class, and as many
  pub ordered_are : (R : Label → Label → Bool) (n : ℕ) (order : List ℕ) → OrderOf R A (map ℓ order) → AllBelow n order
      → (b : List Label) → Memᴰ b (class f A (key_at f A k)) → map ℓ (kept_of (kth_bytes f A k n) order) ≡ those (has b) (map ℓ order)
  pub ordered_as_many : (R : Label → Label → Bool) (n : ℕ) (order : List ℕ) → OrderOf R A (map ℓ order) → AllBelow n order
      → length (kept_of (kth_bytes f A k n) order) ≡ #V

-- each number below the count has such a transition, where the proposal's labels ascend and are a minimal covering by candidates
abbrev pub EachTransitionSays : ℕ → Formula → List Label → Type 0
EachTransitionSays #V f A =
    WellFormed #V f → Homogeneous f A → MinimalCovering #V f A → Rising 0 A → (k : ℕ) → k < length (keys f A) → TransitionSays #V f A k
