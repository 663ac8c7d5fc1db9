-- Section 3: rows of which none breaks its rules are nested, take reads that are there, and are walked from row 0; and what
-- the section answers, search by search.
use Prim.Native.Nat.{ℕ, zero, suc, ◌+◌, ◌*◌, ◌<◌, ◌≤◌}
use native.Mathlib.Omega.{arith}
use native.Mathlib.Nat.{zero-add}
use mathlib.Core.Bool.{true}
use mathlib.Core.List.{List}
use mathlib.Core.Path.{◌≡◌}
use borrow.Author.Tests.{lt-ltb, le-ltb, not-false}
use lib.ListN.{length, get_or, drop}
use Rattle.paper.specs.declared.refusals.Fault.TheVariants.{ReadsLeft, RowBroken, TooDeep}
use Rattle.paper.specs.Limits.{most_rows}
use Rattle.sections.specs.declared.Cursor.{Cursor}
use Rattle.entries.specs.First.{first}
use Rattle.rows.specs.Rows.{kind_of, arg_of, taken_before, keeps_rules, breaks_rules, depth_of, is_deep}
use Rattle.rows.specs.Inside.Looks.{Nested}
use Rattle.sections.specs.Sections.{halt, open_at, rows_at}
use Rattle.entries.proofs.First.{first-le, first-all}
use Rattle.rows.proofs.Taken.{takes-le, taken-there}
use Rattle.rows.proofs.Nested.{nested}
use Rattle.rows.proofs.Depths.{top-depth}
use Rattle.std.specs.Prelude.{Ok}

-- rows of which none breaks its rules; they take no reads that are not there
module _ (rows reads : List ℕ) (#V #N : ℕ) where
  pub all_keep : first (breaks_rules rows reads #V #N) #N ≡ #N → (i : ℕ) → i < #N → keeps_rules rows reads #V #N i ≡ true
  all_keep e i h = not-false _ (first-all (breaks_rules rows reads #V #N) #N e i h)

  pub all-taken : (#R : ℕ) → length reads ≡ #R → first (breaks_rules rows reads #V #N) #N ≡ #N → #R ≤ taken_before rows #N → taken_before rows #N ≡ #R
  all-taken #R r e h = omega (arith, taken-there rows reads #V #N #N (all_keep e))

-- what the searches of section 3 stand on: the rows that passed the first are nested, and what they take is small
module _ (rows reads : List ℕ) (#V #N : ℕ) where
  pub none-broken : (k : ℕ) → k ≡ first (breaks_rules rows reads #V #N) #N → #N ≤ k → (i : ℕ) → i < #N → keeps_rules rows reads #V #N i ≡ true
  none-broken k e h = all_keep rows reads #V #N (omega (arith, first-le (breaks_rules rows reads #V #N) #N))

  pub walk-asks : ((i : ℕ) → i < #N → keeps_rules rows reads #V #N i ≡ true) → 4 * #N ≤ length rows → 1 ≤ #N → #N ≤ most_rows
      → Nested rows #N × (0 < #N) × (depth_of rows 0 + 64 ≡ 65)
  walk-asks keep room some few =
      (nested rows reads #V #N keep room few, omega arith, rw (top-depth rows reads #V #N (keep 0 (omega arith)) (omega arith)))

pub taken-small : (rows : List ℕ) → ((i : ℕ) → get_or rows i 0 < 65536) → (n : ℕ) → taken_before rows n ≤ 65536 * n
unfolding taken_before
taken-small rows h zero = omega arith
taken-small rows h (suc n) = omega (arith, taken-small rows h n, takes-le (kind_of rows n) (arg_of rows n), h (4 * n + 1))

-- The answers of a part that opened with cursor m: the first search, the reads left over, the second search.
module _ (part reads : List ℕ) (c m : Cursor) (came : open_at part c 1 most_rows 4 ≡ Ok m) (k : ℕ)
    (lowest : k ≡ first (breaks_rules (drop 1 part) reads c.variables m.count) m.count) where
  pub some-broken : k < m.count → rows_at part reads c ≡ halt RowBroken k
  unfolding rows_at
  some-broken h = rw (came, ← lowest, lt-ltb k m.count h, zero-add k)

  module _ (whole : m.count ≤ k) (t : ℕ) (taken : t ≡ taken_before (drop 1 part) m.count) where
    pub some_left : t < c.reads → rows_at part reads c ≡ halt ReadsLeft t
    unfolding rows_at
    some_left h = rw (came, ← lowest, le-ltb k m.count whole, ← taken, lt-ltb t c.reads h)

    module _ (all : c.reads ≤ t) (j : ℕ) (lowest-deep : j ≡ first (is_deep (drop 1 part)) m.count) where
      pub some-deep : j < m.count → rows_at part reads c ≡ halt TooDeep j
      unfolding rows_at
      some-deep h =
          rw (came, ← lowest, le-ltb k m.count whole, ← taken, le-ltb t c.reads all, ← lowest-deep, lt-ltb j m.count h, zero-add j)

      pub none_deep : m.count ≤ j
          → rows_at part reads c ≡ Ok (record { at = m.at; count = m.count; variables = m.variables; reads = m.reads; rows = m.count })
      unfolding rows_at
      none_deep h = rw (came, ← lowest, le-ltb k m.count whole, ← taken, le-ltb t c.reads all, ← lowest-deep, le-ltb j m.count h)
