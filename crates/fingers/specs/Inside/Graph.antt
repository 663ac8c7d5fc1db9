-- A relation "before" between the indices below a size, and fingers by which what comes before an index is gone through.
-- Nothing here knows of rows: the order and the search for cycles rest on `Next` alone.
use Rattle.std.specs.Prelude.{ℕ, ◌+◌, ◌<◌, ◌≤◌, Bool, true, false, ◌&&◌, not, ◌≡◌, List, eqb, ltb, length, get_or}
use Rattle.paper.specs.Limits.{slots}
use Rattle.paper.specs.Lists.{those}
use Rattle.paper.specs.Lists.{up_to}

-- i is before j; the finger f of j has passed i; f is a finger of j
pub record Graph : Type 1 where
  pub size : ℕ
  pub before : ℕ → ℕ → Bool
  pub passed : ℕ → ℕ → ℕ → Bool
  pub Finger : ℕ → ℕ → Type 0

-- From finger p on, f is a finger whose index l is open and before j, and none passed was; or l is the size and f has
-- passed all.
pub record Next (g : Graph) (is_open : ℕ → Bool) (j p f l : ℕ) : Type 0 where
  pub good : g.Finger j f
  pub to : l ≤ g.size
  pub none : (i : ℕ) → i < g.size → g.passed j f i ≡ true → g.passed j p i ≡ false → is_open i ≡ true → g.before i j ≡ false
  pub hit : l < g.size → (is_open l ≡ true) × (g.before l j ≡ true)
  pub out : g.size ≤ l → (i : ℕ) → i < g.size → g.passed j f i ≡ true

-- Marks: 0 is new, 1 is done, p + 2 is on the path at position p. i is new:
unfoldable pub free : List ℕ → ℕ → Bool
free mark i = eqb (get_or mark i 0) 0

-- i is new, or on the path below position b
unfoldable pub outside : List ℕ → ℕ → ℕ → Bool
outside mark b i = not (eqb (get_or mark i 0) 1) && ltb (get_or mark i 0) (b + 2)

-- the new indices below n
unfoldable pub left_of : ℕ → List ℕ → List ℕ
left_of n mark = those (free mark) (up_to n)

-- every finger is one of its index, and nothing that it has passed is before that index
pub record Started (g : Graph) (finger : List ℕ) : Type 0 where
  pub size : length finger ≡ slots
  pub within : (j : ℕ) → j < g.size → g.Finger j (get_or finger j 0)
  pub clear : (j : ℕ) → j < g.size → (i : ℕ) → i < g.size → g.passed j (get_or finger j 0) i ≡ true → g.before i j ≡ false
