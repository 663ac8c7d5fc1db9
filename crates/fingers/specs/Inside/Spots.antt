-- Fingers into what a label's stars read. A spot is a star (0 for none), the next of its reads, and the next chosen index
-- of the variable of the read before. From it on come that index and those after it of its variable, those of the reads
-- that are left, and those that the guards around the star read.
use Rattle.std.specs.Prelude.{ℕ, zero, suc, ◌+◌, ◌*◌, ◌-◌, ◌/◌, ◌%◌, ◌<◌, ◌≤◌}
use Rattle.std.specs.Prelude.{Bool, true, false, cond, ◌&&◌, ◌||◌, not, ◌≡◌, List, eqb, ltb, leb, length, get_or, take, drop}
use Rattle.paper.specs.Limits.{most_reads, slots}
use Rattle.paper.specs.Lists.{any_of}
use Rattle.rows.specs.Rows.{kind_of, arg_of, from_of}
use Rattle.rows.specs.Inside.Tree.{guard_of}
use Rattle.net.specs.Inside.Prior.{around, is_frozen, share_branch_in, variable_of, prior}
use Rattle.net.specs.Inside.Net.{first_with}
use Rattle.fingers.specs.declared.Moved.{Moved}
use Rattle.fingers.specs.Inside.Graph.{Graph, Next}

-- one past the last read of the star in row s
abbrev pub stop_of : List ℕ → ℕ → ℕ
stop_of rows s = from_of rows s + arg_of rows s

-- a read from a up to b is of v
unfoldable pub reads_any : List ℕ → ℕ → ℕ → ℕ → Bool
reads_any reads a b v = any_of (eqb v) (take (b - a) (drop a reads))

-- three numbers below 65,536 in one
abbrev pub packed : ℕ → ℕ → ℕ → ℕ
packed s r k = s * 4294967296 + r * 65536 + k

-- how far a spot is from the end
unfoldable pub ahead : List ℕ → List ℕ → ℕ → ℕ → ℕ → ℕ
ahead rows chosen s r k = cond (eqb s 0) 0 (packed s (stop_of rows s - r) (length chosen - k))

-- k is an index that is open, and its label shares a branch with that of j
unfoldable pub calls : List ℕ → List ℕ → (ℕ → Bool) → ℕ → ℕ → Bool
calls rows chosen is_open k j = ltb k (length chosen) && (is_open k && share_branch_in rows (get_or chosen k 0) (get_or chosen j 0))

-- the labels from one up to another share no branch with that of j
abbrev pub Apart : List ℕ → List ℕ → ℕ → ℕ → ℕ → Type 0
Apart rows chosen j from to = (x : ℕ) → from ≤ x → x < to → share_branch_in rows x (get_or chosen j 0) ≡ false

-- what a look at an index gives: an answer, and labels that share no branch with that of j
pub record Looked (rows chosen : List ℕ) (answer : Bool) (j from to : ℕ) (hit : Bool) : Type 0 where
  pub says : hit ≡ answer
  pub apart : Apart rows chosen j from to

-- What a search for j asks: room for the marks, and a finger of j.
pub record Seekable (g : Graph) (b j f : ℕ) : Type 0 where
  pub low : b < slots
  pub here : j < g.size
  pub finger : g.Finger j f

-- the finger of j before all that its own star reads
unfoldable pub start_of : List ℕ → List ℕ → ℕ → ℕ
start_of rows chosen j = packed (get_or chosen j 0 + 1) (from_of rows (get_or chosen j 0 + 1)) (length chosen)

-- the fingers of the indices below m are there, and the words from m on are as they were
pub record AtStart (rows chosen : List ℕ) (m : ℕ) (old finger : List ℕ) : Type 0 where
  pub size : length finger ≡ slots
  pub starts : (j : ℕ) → j < m → get_or finger j 0 ≡ start_of rows chosen j
  pub others : (j : ℕ) → m ≤ j → get_or finger j 0 ≡ get_or old j 0

-- (s, r, k) is a spot
pub record IsSpot (rows chosen : List ℕ) (#N s r k : ℕ) : Type 0 where
  pub star : s < #N
  pub kind : 0 < s → kind_of rows s ≡ 1
  pub read : 0 < s → r ≤ most_reads
  pub index : k ≤ length chosen

module _ (rows reads chosen : List ℕ) where
  -- index i lies from the spot (s, r, k) on
  unfoldable pub pending : ℕ → ℕ → ℕ → ℕ → Bool
  pending s r k i =
      not (eqb s 0)
      && (ltb k (length chosen) && (eqb (variable_of rows chosen k) (variable_of rows chosen i) && leb k i)
      || (reads_any reads r (stop_of rows s) (variable_of rows chosen i) || around rows reads s (variable_of rows chosen i)))

  -- The spot after (s, r, k), which has a star: the next index of the variable; past the last, the first index of the next
  -- read; past the last read, the star of the guard around, before all that it reads.
  unfoldable pub spot_after : ℕ → ℕ → ℕ → ℕ × ℕ × ℕ
  spot_after s r k =
      cond (ltb k (length chosen)) (s, r, first_with rows chosen (variable_of rows chosen k) (k + 1))
      (cond (ltb r (stop_of rows s)) (s, r + 1, first_with rows chosen (get_or reads r 0) 0) (guard_of rows s, from_of rows (guard_of rows s), length chosen))

  -- What a search answers at (s, r, k), by whether there is no star and whether the index calls: finger 0 and how many indices
  -- there are; the spot as a finger and its index; else what it answers from the spot after.
  abbrev pub answer_at : Bool → Bool → (ℕ × ℕ × ℕ → Moved) → ℕ → ℕ → ℕ → Moved
  answer_at true calling later s r k = record { finger = 0; index = length chosen }
  answer_at false true later s r k = record { finger = packed s r k; index = k }
  answer_at false false later s r k = later (spot_after s r k)

  -- what a search for j answers within so many spots
  unfoldable pub sought_within : (ℕ → Bool) → ℕ → ℕ → ℕ × ℕ × ℕ → Moved
  sought_within is_open j zero p = record { finger = 0; index = length chosen }
  sought_within is_open j (suc most) (s, r, k) = answer_at (eqb s 0) (calls rows chosen is_open k j) (sought_within is_open j most) s r k

  -- what it answers from (s, r, k) on: more spots than `ahead` give the same (`enough` in proofs/Finding.antt)
  unfoldable pub sought_from : (ℕ → Bool) → ℕ → ℕ → ℕ → ℕ → Moved
  sought_from is_open j s r k = sought_within is_open j (ahead rows chosen s r k) (s, r, k)

  module _ (#N : ℕ) where
    -- (s', r', k') is the spot after (s, r, k): the same lies from both on, but for k
    pub record After (s r k s' r' k' : ℕ) : Type 0 where
      pub spot : IsSpot rows chosen #N s' r' k'
      pub less : ahead rows chosen s' r' k' < ahead rows chosen s r k
      pub old : (i : ℕ) → pending s' r' k' i ≡ true → pending s r k i ≡ true
      pub only : (i : ℕ) → i < length chosen → pending s r k i ≡ true → pending s' r' k' i ≡ false → (k < length chosen) × (i ≡ k)
      pub exactly : (s', r', k') ≡ spot_after s r k

    -- (s, r, k) is a spot of j: what lies from it on is frozen at j
    pub record SpotOf (j s r k : ℕ) : Type 0 where
      pub spot : IsSpot rows chosen #N s r k
      pub frozen : (i : ℕ) → pending s r k i ≡ true → is_frozen rows reads (get_or chosen j 0) (variable_of rows chosen i) ≡ true

    -- what a search for j from (s₀, r₀, k₀) has shown at (s, r, k): whatever was passed and is open is not before j, and the
    -- answer from the one is the answer from the other
    pub record Sought (is_open : ℕ → Bool) (j s₀ r₀ k₀ s r k : ℕ) : Type 0 where
      pub at : SpotOf j s r k
      pub none : (i : ℕ) → i < length chosen → pending s₀ r₀ k₀ i ≡ true → pending s r k i ≡ false → is_open i ≡ true → prior rows reads chosen i j ≡ false
      pub onto : sought_from is_open j s₀ r₀ k₀ ≡ sought_from is_open j s r k

    -- fingers are spots as numbers
    unfoldable pub passed_of : ℕ → ℕ → ℕ → Bool
    passed_of j f i = not (pending (f / 4294967296) (f / 65536 % 65536) (f % 65536) i)

    unfoldable pub finger_of : ℕ → ℕ → Type 0
    finger_of j f = SpotOf j (f / 4294967296) (f / 65536 % 65536) (f % 65536)

    abbrev pub graph_of : Graph
    graph_of = record { size = length chosen; before = prior rows reads chosen; passed = passed_of; Finger = finger_of }

    -- what a search for j from finger p answers: a next finger, exactly the one that following the spots gives
    pub record Answered (is_open : ℕ → Bool) (j p : ℕ) (r : Moved) : Type 0 where
      pub next : Next graph_of is_open j p r.finger r.index
      pub exactly : r ≡ sought_from is_open j (p / 4294967296) (p / 65536 % 65536) (p % 65536)
