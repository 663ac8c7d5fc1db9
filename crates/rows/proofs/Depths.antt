-- How deep a row lies is how many rows hold it. In nested rows a child lies one level below its parent: a row before the
-- parent holds both or neither, and what stands between the two ends before the child. So a walk over the children finds the
-- lowest row deeper than 64.
use Prim.Native.Nat.{ℕ, zero, suc, ◌+◌, ◌-◌, ◌<◌, ◌≤◌}
use native.Mathlib.Omega.{arith}
use native.Mathlib.Nat.{eq-or-lt_of_le}
use mathlib.Core.Path.{◌≡◌, refl, sym, ap, ◌∙◌}
use mathlib.Core.Bool.{Bool, true, false}
use mathlib.Core.Logic.{◌⊎◌, inl, inr}
use mathlib.Core.List.{List}
use lib.Dec.{ltb}
use borrow.Author.Tests.{ltb-true, lt-ltb, le-ltb}
use Rattle.paper.specs.Limits.{most_depth}
use Rattle.paper.proofs.Bools.{same_answer, pick}
use Rattle.entries.specs.First.{first}
use Rattle.rows.specs.Rows.{end_of, keeps_rules, round_of, depth_of, is_deep}
use Rattle.rows.specs.Inside.Looks.{Nested}
use Rattle.entries.proofs.First.{first_found, first-none, first_below, first-at, first-same}
use Rattle.rows.proofs.Meets.{lt-or-le}
use Rattle.rows.proofs.Rules.{root_ends}

-- the lowest offender from a place on, as `first` counts from there: found, absent, and what the search has shown
module _ (bad : ℕ → Bool) (from to : ℕ) where
  abbrev pub first_from : ℕ
  first_from = from + first (λ k. bad (from + k)) (to - from)

  pub found_from : (i : ℕ) → from ≤ i → i < to → ((j : ℕ) → from ≤ j → j < i → bad j ≡ false) → bad i ≡ true → i ≡ first_from
  found_from i le lt below at =
      let before : (k : ℕ) → k < i - from → bad (from + k) ≡ false = λ k h. below (from + k) (omega arith) (omega arith) in
      let e = first_found (λ k. bad (from + k)) (to - from) (i - from) before (omega arith) (ap bad (omega arith) ∙ at) in
      omega arith

  pub none_from : from ≤ to → ((j : ℕ) → from ≤ j → j < to → bad j ≡ false) → to ≡ first_from
  none_from le below =
      let e = first-none (λ k. bad (from + k)) (to - from) (λ k h. below (from + k) (omega arith) (omega arith)) in
      omega arith

  pub below-from : (j : ℕ) → from ≤ j → j < first_from → bad j ≡ false
  below-from j le h = ap bad (omega arith) ∙ first_below (λ k. bad (from + k)) (to - from) (j - from) (omega arith)

  pub at_from : first_from < to → bad first_from ≡ true
  at_from h = first-at (λ k. bad (from + k)) (to - from) (omega arith)

module _ (rows : List ℕ) where
  -- of the rows up to row k, row k holds row i, or does not
  pub round-in : (i k : ℕ) → i < end_of rows k → round_of rows i (suc k) ≡ suc (round_of rows i k)
  unfolding round_of
  round-in i k h = rw (lt-ltb i (end_of rows k) h) (omega arith)

  pub round-out : (i k : ℕ) → end_of rows k ≤ i → round_of rows i (suc k) ≡ round_of rows i k
  unfolding round_of
  round-out i k h = rw (le-ltb i (end_of rows k) h) (omega arith)

  -- none of the rows from a on below b holds row i
  pub rounds-out : (i a b : ℕ) → a ≤ b → ((j : ℕ) → a ≤ j → j < b → end_of rows j ≤ i) → round_of rows i b ≡ round_of rows i a
  rounds-out i a zero le out = ap (round_of rows i) (omega arith)
  rounds-out i a (suc b) le out =
      pick (eq-or-lt_of_le le) (λ e. ap (round_of rows i) (sym e))
      (λ h. round-out i b (out b (omega arith) (omega arith)) ∙ rounds-out i a b (omega arith) (λ j from below. out j from (omega arith)))

  -- the first k rows hold both rows, or neither
  pub rounds-same : (i j k : ℕ) → ((l : ℕ) → l < k → ltb i (end_of rows l) ≡ ltb j (end_of rows l)) → round_of rows i k ≡ round_of rows j k
  unfolding round_of
  rounds-same i j zero same = refl
  rounds-same i j (suc k) same = cc (same k (omega arith), rounds-same i j k (λ l h. same l (omega arith)))

  -- a walk over the children of row `at`, as it stands at k: nothing passed reaches beyond k, and nothing passed is deep
  pub record Passed (at k : ℕ) : Type 0 where
    pub after : at < k
    pub inside : k ≤ end_of rows at
    pub ended : (j : ℕ) → at < j → j < k → end_of rows j ≤ k
    pub shallow : (j : ℕ) → at ≤ j → j < k → is_deep rows j ≡ false

  -- the lowest deep row of row at's subtree, or its end
  abbrev pub lowest_deep : ℕ → ℕ
  lowest_deep at = first_from (is_deep rows) at (end_of rows at)

  pub all-passed : {at k : ℕ} → end_of rows at ≤ k → Passed at k → end_of rows at ≡ lowest_deep at
  all-passed {at} {k} done passed = none_from (is_deep rows) at (end_of rows at) (omega arith) (λ j from below. passed.shallow j from (omega arith))

  module _ {#N : ℕ} (nested : Nested rows #N) (at : ℕ) (here : at < #N) where
    -- no level is left for row at
    pub too-deep : depth_of rows at ≡ 65 → at ≡ lowest_deep at
    too-deep e =
        found_from (is_deep rows) at (end_of rows at) at (omega arith) (nested.rises at here) (λ j from below. absurd (omega arith))
        (lt-ltb most_depth (depth_of rows at) (omega arith))

    pub passed_none : depth_of rows at ≤ most_depth → Passed at (at + 1)
    passed_none h = record {
      after = omega arith;
      inside = let z = nested.rises at here in omega arith;
      ended = λ j from below. absurd (omega arith);
      shallow = λ j from below. ap (is_deep rows) (omega arith) ∙ le-ltb most_depth (depth_of rows at) h;
    }

  -- the walk stands at a child
  pub record AtChild (#N at k : ℕ) : Type 0 where
    pub nested : Nested rows #N
    pub here : at < #N
    pub inside : k < end_of rows at
    pub passed : Passed at k

module _ {rows : List ℕ} {#N at k : ℕ} (c : AtChild rows #N at k) where
  pub child-within : k < #N
  child-within = let z = c.nested.within at c.here in omega arith

  pub child-rises : k < end_of rows k
  child-rises = c.nested.rises k child-within

  pub child-inside : end_of rows k ≤ end_of rows at
  child-inside = c.nested.nested at k c.passed.after c.inside (c.nested.within at c.here)

  pub child-depth : depth_of rows k ≡ suc (depth_of rows at)
  child-depth =
      round-in rows k k child-rises
      ∙ ap suc (rounds-out rows k (suc at) k c.passed.after c.passed.ended)
      ∙ ap suc (rounds-same rows k at (suc at) (λ l h. same_answer _ _ (down l) (up l h)))
    where
      down : (l : ℕ) → ltb k (end_of rows l) ≡ true → ltb at (end_of rows l) ≡ true
      down l e = let y = ltb-true k (end_of rows l) e in lt-ltb at (end_of rows l) (omega arith)

      up : (l : ℕ) → l < suc at → ltb at (end_of rows l) ≡ true → ltb k (end_of rows l) ≡ true
      up l h e =
          pick (eq-or-lt_of_le (omega arith))
          (λ q. lt-ltb k (end_of rows l) (rw q c.inside))
          (λ above.
          let holds = c.nested.nested l at above (ltb-true at (end_of rows l) e) (c.nested.within l (omega arith)) in
          lt-ltb k (end_of rows l) (omega arith))

  -- the child's subtree has a deep row
  pub found_inside : lowest_deep rows k < end_of rows k → lowest_deep rows k ≡ lowest_deep rows at
  found_inside h =
      let y = child-inside in
      found_from (is_deep rows) at (end_of rows at) (lowest_deep rows k) (omega arith) (omega arith)
      (λ j from below. pick (lt-or-le j k) (c.passed.shallow j from) (λ l. below-from (is_deep rows) k (end_of rows k) j l below))
      (at_from (is_deep rows) k (end_of rows k) h)

  -- it has none
  pub passed-more : end_of rows k ≤ lowest_deep rows k → Passed rows at (end_of rows k)
  passed-more h = record {
    after = let y = child-rises in omega arith;
    inside = child-inside;
    ended = λ j from below. pick (lt-or-le j k) (outer j from) (λ l. inner j below (eq-or-lt_of_le l));
    shallow = λ j from below. pick (lt-or-le j k) (c.passed.shallow j from) (λ l. below-from (is_deep rows) k (end_of rows k) j l (omega arith));
  }
    where
      outer : (j : ℕ) → at < j → j < k → end_of rows j ≤ end_of rows k
      outer j from l = let y = child-rises in let z = c.passed.ended j from l in omega arith

      inner : (j : ℕ) → j < end_of rows k → (k ≡ j) ⊎ (k < j) → end_of rows j ≤ end_of rows k
      inner j below (inl e) = rw (sym e) (omega arith)
      inner j below (inr l) = c.nested.nested k j l below (c.nested.within k child-within)

-- the whole table, whose row 0 keeps its rules: it ends at #N and has depth 1, and a walk from it finds the lowest deep row of all
module _ (rows reads : List ℕ) (#V #N : ℕ) (keeps : keeps_rules rows reads #V #N 0 ≡ true) where
  pub top-depth : 0 < #N → depth_of rows 0 ≡ 1
  unfolding round_of
  top-depth some = round-in rows 0 0 (omega (arith, root_ends rows reads #V #N keeps))

  pub top-deep : lowest_deep rows 0 ≡ first (is_deep rows) #N
  top-deep =
      let e = first-same (λ k. is_deep rows (0 + k)) (is_deep rows) (end_of rows 0 - 0) (λ k h. ap (is_deep rows) (omega arith)) in
      let end : end_of rows 0 - 0 ≡ #N = omega (arith, root_ends rows reads #V #N keeps) in
      omega (arith, e ∙ ap (first (is_deep rows)) end)
