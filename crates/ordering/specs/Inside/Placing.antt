-- What the code keeps while it places indices in the reported order.
use Rattle.std.specs.Prelude.{ℕ, ◌+◌, ◌-◌, ◌<◌, ◌≤◌, Bool, true, false, ◌≡◌, List, ◌++◌, eqb, length, get_or, take, drop, Option, Some, None}
use Rattle.paper.specs.Limits.{slots}
use Rattle.paper.specs.Order.{greedy_by}
use Rattle.paper.specs.Lists.{up_to}
use Rattle.fingers.specs.Inside.Graph.{Graph, free, left_of}
use Rattle.ordering.specs.Inside.Reported.{labelled}

-- j waits for f, which is not placed, and low says so
pub record Blocked (g : Graph) (placed low : List ℕ) (j f : ℕ) : Type 0 where
  pub inside : f < g.size
  pub waiting : free placed f ≡ true
  pub because : g.before f j ≡ true
  pub seen : get_or low f 0 ≤ j

-- What is before j is placed or lies from its finger on; an index that waits for one not placed is blocked by it; those
-- below k that are not placed wait.
pub record State (g : Graph) (k : ℕ) (placed finger wait low : List ℕ) : Type 0 where
  pub small : g.size < slots
  pub places : length placed ≡ slots
  pub fingers : length finger ≡ slots
  pub waits : length wait ≡ slots
  pub lows : length low ≡ slots
  pub within : (j : ℕ) → j < g.size → g.Finger j (get_or finger j 0)
  pub clear : (j : ℕ) → j < g.size → (i : ℕ) → i < g.size → g.passed j (get_or finger j 0) i ≡ true → free placed i ≡ true → g.before i j ≡ false
  pub awaits : (j : ℕ) → j < g.size → get_or wait j 0 < g.size → free placed (get_or wait j 0) ≡ true → Blocked g placed low j (get_or wait j 0)
  pub blocked : (j : ℕ) → j < k → free placed j ≡ true → Blocked g placed low j (get_or wait j 0)

-- low is k or less at f, and nowhere higher than before
pub record Lowered (low : List ℕ) (f k : ℕ) (low' : List ℕ) : Type 0 where
  pub size : length low' ≡ length low
  pub there : get_or low' f 0 ≤ k
  pub all : (i : ℕ) → get_or low' i 0 ≤ get_or low i 0

-- k is not placed, and its finger has passed all
abbrev pub IsReady : Graph → List ℕ → List ℕ → ℕ → Type 0
IsReady g placed finger k = (free placed k ≡ true) × ((i : ℕ) → i < g.size → g.passed k (get_or finger k 0) i ≡ true)

-- after a visit of k: it is ready (r), or it is placed or blocked
pub record Visited (g : Graph) (k : ℕ) (placed finger wait low : List ℕ) (r : Bool) : Type 0 where
  pub state : State g k placed finger wait low
  pub passed : r ≡ false → State g (k + 1) placed finger wait low
  pub ready : r ≡ true → IsReady g placed finger k

-- k is an index that is ready, and those below it that are not placed wait
pub record Ready (g : Graph) (k : ℕ) (placed finger wait low : List ℕ) : Type 0 where
  pub inside : k < g.size
  pub state : State g k placed finger wait low
  pub ready : IsReady g placed finger k

-- the lowest index that is ready; where none is, all that are not placed wait
abbrev pub Lowest : Graph → List ℕ → List ℕ → List ℕ → List ℕ → Option ℕ → Type 0
Lowest g placed finger wait low None = State g g.size placed finger wait low
Lowest g placed finger wait low (Some k) = Ready g k placed finger wait low

-- the order of the indices that are left, m of them at most
abbrev pub rest : Graph → ℕ → List ℕ → List ℕ
rest g m left = greedy_by g.before eqb m left

-- count indices are placed, and their labels stand in out
pub record Placing (g : Graph) (chosen : List ℕ) (count : ℕ) (placed out₀ out : List ℕ) : Type 0 where
  pub size : length out ≡ slots
  pub counted : count + length (left_of g.size placed) ≤ g.size
  pub sofar : labelled chosen (rest g g.size (up_to g.size)) ≡ take count out ++ labelled chosen (rest g (g.size - count) (left_of g.size placed))
  pub behind : drop count out ≡ drop count out₀
