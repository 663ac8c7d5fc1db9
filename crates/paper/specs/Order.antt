-- Orders of a set of labels under a relation R between them (document 001, Definition 3; document 01, "Reported order",
-- and refusal 13). R is "before" of the whole strategy; nothing here depends on that.
use Rattle.std.specs.Prelude.{ℕ, zero, suc, Bool, true, false, ◌&&◌, ◌||◌, not, ◌≡◌, ◌⊎◌, List, [], ◌∷◌, length}
use Rattle.paper.specs.Lists.{any_of, those}
use Rattle.paper.specs.Formula.{Label, same, has}

-- Definition 3: one strict total order on the whole of A that respects R
pub record Acyclic (R : Label → Label → Bool) (A : List Label) : Type 0 where
  infix 50 ◌≺◌
  pub ◌≺◌ : Label → Label → Bool
  pub irreflexive : (i : Label) → has A i ≡ true → (i ≺ i) ≡ false
  pub transitive : (i j k : Label) → (i ≺ j) ≡ true → (j ≺ k) ≡ true → (i ≺ k) ≡ true
  pub total : (i j : Label) → has A i ≡ true → has A j ≡ true → ((i ≺ j) ≡ true) ⊎ ((i ≡ j) ⊎ ((j ≺ i) ≡ true))
  pub respects : (i j : Label) → R i j ≡ true → (i ≺ j) ≡ true

-- The order and the test for cycles serve any things that can be told apart: labels here, their indices in code.
module _ {X : Type 0} (R : X → X → Bool) where
  -- nothing left comes before j
  abbrev pub is_ready : List X → X → Bool
  is_ready left j = not (any_of (λ i. R i j) left)

  -- at each step the first one left that is ready; at most so many steps
  abbrev pub greedy_by : (X → X → Bool) → ℕ → List X → List X
  greedy_by alike zero left = []
  greedy_by alike (suc n) left = elim (those (is_ready left) left) [ [] ↦ [] | j ∷ js ↦ j ∷ greedy_by alike n (those (λ i. not (alike i j)) left) ]

  -- a chain leads from i to j, with nothing between them but members of ks
  abbrev pub leads : List X → X → X → Bool
  leads [] i j = R i j
  leads (k ∷ ks) i j = leads ks i j || leads ks i k && leads ks k j

  -- i is on a cycle of R, a relation between members of A
  abbrev pub on_cycle : List X → X → Bool
  on_cycle A i = leads A i i

module _ (R : Label → Label → Bool) where
  -- at each step the lowest label left that is ready, where the labels left ascend
  abbrev pub greedy : ℕ → List Label → List Label
  greedy = greedy_by R same

  -- the reported order of A, whose labels ascend
  abbrev pub order : List Label → List Label
  order A = greedy (length A) A

  -- a chain of R from i to j; a cycle is a chain from a label to itself
  pub data Chain : Label → Label → Type 0 where
    link : {i j : Label} → R i j ≡ true → Chain i j
    ◌then◌ : {i j k : Label} → R i j ≡ true → Chain j k → Chain i k

-- The labels of a list come in an order that respects R: whatever comes before one of them is done when its turn comes.
abbrev pub Respects : (Label → Label → Bool) → List Label → List Label → Type 0
Respects R done [] = Unit {0}
Respects R done (j ∷ js) = ((i : Label) → R i j ≡ true → has done i ≡ true) × Respects R (j ∷ done) js

-- no label twice
abbrev pub Once : List Label → Type 0
Once [] = Unit {0}
Once (j ∷ js) = (has js j ≡ false) × Once js

-- o lists the labels of A, each once, in an order that respects R
pub record OrderOf (R : Label → Label → Bool) (A o : List Label) : Type 0 where
  pub respects : Respects R [] o
  pub once : Once o
  pub from : (l : Label) → has o l ≡ true → has A l ≡ true
  pub onto : (l : Label) → has A l ≡ true → has o l ≡ true
