-- What the search for cycles keeps: a path of segments, walked against "before".
use Rattle.std.specs.Prelude.{ℕ, ◌+◌, ◌*◌, ◌-◌, ◌<◌, ◌≤◌, Bool, true, false, ◌≡◌, List, length, get_or}
use Rattle.paper.specs.Limits.{slots}
use Rattle.paper.specs.Order.{on_cycle}
use Rattle.paper.specs.Lists.{up_to}
use Rattle.fingers.specs.Inside.Graph.{Graph, free, left_of}

-- i lies on a cycle
unfoldable pub is_cyclic : Graph → ℕ → Bool
is_cyclic g i = on_cycle g.before (up_to g.size) i

-- a chain leads from i to j
pub data Trail (g : Graph) : ℕ → ℕ → Type 0 where
  here : {i : ℕ} → Trail g i i
  step : {i k j : ℕ} → i < g.size → g.before i k ≡ true → Trail g k j → Trail g i j

-- The path has len indices, in top segments, each from its bound on; from `at` on the fingers have run out.
pub record Walked (g : Graph) (mark stack bound finger : List ℕ) (len top at : ℕ) : Type 0 where
  pub small : g.size < slots
  pub marks : length mark ≡ slots
  pub stacks : length stack ≡ slots
  pub bounds : length bound ≡ slots
  pub fingers : length finger ≡ slots
  -- the path and the marks say the same
  pub on : (p : ℕ) → p < len → (get_or stack p 0 < g.size) × (get_or mark (get_or stack p 0) 0 ≡ p + 2)
  pub off : (i : ℕ) → i < g.size → (p : ℕ) → get_or mark i 0 ≡ p + 2 → (p < len) × (get_or stack p 0 ≡ i)
  pub room : len + length (left_of g.size mark) ≤ g.size
  -- the segments
  pub some : 0 < len → 0 < top
  pub first : get_or bound 0 0 ≡ 0
  pub low : (k : ℕ) → k < top → get_or bound k 0 < len
  pub rising : (k l : ℕ) → k < l → l < top → get_or bound k 0 < get_or bound l 0
  pub tops : top ≤ len
  -- an index leads to each index of its own segment and of those below
  pub reach : (p r : ℕ) → p < len → r < len → ((k : ℕ) → k < top → get_or bound k 0 ≤ p → get_or bound k 0 ≤ r) → Trail g (get_or stack r 0) (get_or stack p 0)
  -- what a finger passed is done, or in the index's segment or above it
  pub within : (j : ℕ) → j < g.size → g.Finger j (get_or finger j 0)
  pub fresh : (j : ℕ) → j < g.size → get_or mark j 0 ≡ 0 → (i : ℕ) → i < g.size → g.passed j (get_or finger j 0) i ≡ true → g.before i j ≡ false
  pub passed : (p : ℕ) → p < len → (i : ℕ) → i < g.size → g.passed (get_or stack p 0) (get_or finger (get_or stack p 0) 0) i ≡ true
      → g.before i (get_or stack p 0) ≡ true → (get_or mark i 0 ≡ 1 → ⊥)
      → (2 ≤ get_or mark i 0) × ((k : ℕ) → k < top → get_or bound k 0 ≤ p → get_or bound k 0 + 2 ≤ get_or mark i 0)
  pub closed : (j : ℕ) → j < g.size → get_or mark j 0 ≡ 1 → (i : ℕ) → i < g.size → g.before i j ≡ true → get_or mark i 0 ≡ 1
  -- from `at` on the fingers have run out
  pub upto : at ≤ len
  pub high : (k : ℕ) → k < top → get_or bound k 0 ≤ at
  pub spent : (p : ℕ) → at ≤ p → p < len → (i : ℕ) → i < g.size → g.passed (get_or stack p 0) (get_or finger (get_or stack p 0) 0) i ≡ true

-- best is the lowest index that is known to be on a cycle, or the size: lower than any that is before itself or is done and on one
pub record Best (g : Graph) (mark : List ℕ) (best : ℕ) : Type 0 where
  pub to : best ≤ g.size
  pub cyclic : best < g.size → is_cyclic g best ≡ true
  pub self : (i : ℕ) → i < g.size → g.before i i ≡ true → best ≤ i
  pub least : (i : ℕ) → i < g.size → get_or mark i 0 ≡ 1 → is_cyclic g i ≡ true → best ≤ i

-- how far the walk has to go: new indices, segments, indices whose fingers may move; there are fewer than 2,049 of the last two each, and
-- 4,198,401 is 2,049 squared
unfoldable pub weight : Graph → List ℕ → ℕ → ℕ → ℕ
weight g mark top at = length (left_of g.size mark) * 4198401 + top * 2049 + at

-- no mark goes back to 0
abbrev pub Grown : Graph → List ℕ → List ℕ → Type 0
Grown g mark mark' = (i : ℕ) → i < g.size → free mark' i ≡ true → free mark i ≡ true

-- the indices of the path from `from` on are marked as done
pub record Finished (mark stack : List ℕ) (from len : ℕ) (mark' : List ℕ) : Type 0 where
  pub size : length mark' ≡ length mark
  pub hit : (p : ℕ) → p < len → from ≤ p → get_or mark' (get_or stack p 0) 0 ≡ 1
  pub miss : (i : ℕ) → ((p : ℕ) → p < len → from ≤ p → i ≡ get_or stack p 0 → ⊥) → get_or mark' i 0 ≡ get_or mark i 0

-- r is the least of best and the indices of the path from `from` on
pub record Settled (stack : List ℕ) (from len best r : ℕ) : Type 0 where
  pub not_above : r ≤ best
  pub all : (p : ℕ) → p < len → from ≤ p → r ≤ get_or stack p 0
  pub one : (r ≡ best → ⊥) → (p : ℕ) × (p < len) × (from ≤ p) × (r ≡ get_or stack p 0)

-- after the segment from `from` on is settled: its indices count if they are two or more
pub record Counted (stack : List ℕ) (from len best r : ℕ) : Type 0 where
  pub many : from + 1 < len → Settled stack from len best r
  pub single : len ≤ from + 1 → r ≡ best

-- t segments are left when those that start above p are joined to the one that holds p
pub record Merged (bound : List ℕ) (top p t : ℕ) : Type 0 where
  pub above : 0 < t
  pub below : t ≤ top
  pub holds : get_or bound (t - 1) 0 ≤ p
  pub gone : (k : ℕ) → k < top → t ≤ k → p < get_or bound k 0

-- what a step of the walk does, which had top₀ segments and worked on the position before at₀
pub record Stepped (g : Graph) (mark mark' stack bound finger : List ℕ) (top₀ at₀ len top at best : ℕ) : Type 0 where
  pub path : Walked g mark' stack bound finger len top at
  pub best_so_far : Best g mark' best
  pub grown : Grown g mark mark'
  pub less : weight g mark' top at < weight g mark top₀ at₀

-- all that leads to root is done, and the path is empty again
pub record Explored (g : Graph) (root : ℕ) (mark mark' stack bound finger : List ℕ) (best : ℕ) : Type 0 where
  pub path : Walked g mark' stack bound finger 0 0 0
  pub best_so_far : Best g mark' best
  pub grown : Grown g mark mark'
  pub taken : free mark' root ≡ false

-- r is the lowest index that is before itself, or the size
pub record Selfless (g : Graph) (r : ℕ) : Type 0 where
  pub to : r ≤ g.size
  pub none : (i : ℕ) → i < r → g.before i i ≡ false
  pub hit : r < g.size → g.before r r ≡ true
