-- What the net's contracts ask is so of every sound table: rows that keep their rules form one tree, and labels of candidates,
-- strictly ascending, are few, since each takes a row for its star.
use Prim.Native.Nat.{ℕ, zero, suc, ◌+◌, ◌*◌, ◌<◌, ◌≤◌}
use native.Mathlib.Omega.{arith}
use mathlib.Core.Path.{◌≡◌, refl, ap}
use mathlib.Core.Bool.{Bool, true, false, false≢true}
use mathlib.Core.List.{List}
use lib.ListN.{length, get_or}
use lib.Dec.{eqb, ltb}
use borrow.Author.Tests.{eqb-true, eqb-false, ltb-true}
use Rattle.paper.specs.Limits.{most_rows, most_variables}
use Rattle.paper.proofs.Bools.{and_left, and_right, pick}
use Rattle.rows.specs.Rows.{kind_of, arg_of, end_of, form_of, guarded, star_rule, candidate_rule, bound_rule, keeps_form, keeps_rules}
use Rattle.rows.proofs.Meets.{child, no-child, lt-or-le}
use Rattle.rows.proofs.Nested.{nested}
use Rattle.rows.proofs.Rules.{kept, no-form, root_ends}
use Rattle.net.specs.Inside.Net.{Tree, Chosen}

module _ (rows reads : List ℕ) (#V #N : ℕ) (keep : (i : ℕ) → i < #N → keeps_rules rows reads #V #N i ≡ true) (room : 4 * #N ≤ length rows)
    (few : #N ≤ most_rows) where
  -- what the form of a row asks of it
  form_keeps : (i k : ℕ) → i < #N → kind_of rows i ≡ k → keeps_form rows reads #V i (form_of k) ≡ true
  form_keeps i k h e = rw e at (kept rows reads #V #N i (keep i h)).form_keeps

  within : (i : ℕ) → i < #N → end_of rows i ≤ #N
  within = (nested rows reads #V #N keep room few).within

  -- a row whose first child is a star: the star is there, and has no row under it
  record First (i : ℕ) : Type 0 where
    star : kind_of rows (i + 1) ≡ 1
    bare : end_of rows (i + 1) ≡ i + 2

  first-star : (i m : ℕ) → i < #N → guarded rows i (suc m) ≡ true → First i
  unfolding star_rule form_of
  first-star i m h e =
      let star = eqb-true (kind_of rows (i + 1)) 1 (and_left (eqb (kind_of rows (i + 1)) 1) _ e) in
      let c = child rows (end_of rows i) (i + 1) m (and_right (eqb (kind_of rows (i + 1)) 1) _ e) in
      let w = within i h in
      let b = c.before in
      let s = form_keeps (i + 1) 1 (omega arith) star in
      let z = eqb-true (end_of rows (i + 1)) (i + 1 + 1) (and_left (eqb (end_of rows (i + 1)) (i + 1 + 1)) _ s) in
      record { star = star; bare = omega arith }

  -- what a candidate shows
  record Candidate (i : ℕ) : Type 0 where
    first : First i
    ended : end_of rows i ≡ i + 2
    low : arg_of rows i < #V

  candidate : (i : ℕ) → i < #N → kind_of rows i ≡ 2 → Candidate i
  unfolding candidate_rule form_of
  candidate i h e =
      let r = form_keeps i 2 h e in
      let g = and_right (ltb (arg_of rows i) #V) _ r in
      let f = first-star i 0 h g in
      let c = child rows (end_of rows i) (i + 1) 0 (and_right (eqb (kind_of rows (i + 1)) 1) _ g) in
      record {
        first = f;
        ended = let z = no-child rows (end_of rows i) (end_of rows (i + 1)) c.others in let b = f.bare in omega arith;
        low = ltb-true (arg_of rows i) #V (and_left (ltb (arg_of rows i) #V) _ r);
      }

  -- what an exists and an IF show; no row is of a higher kind
  first-of-bound : (i : ℕ) → i < #N → 4 < kind_of rows i → First i
  unfolding bound_rule form_of
  first-of-bound i h l = go (eqb (kind_of rows i) 5) (eqb (kind_of rows i) 6) refl refl
    where
      go : (a b : Bool) → eqb (kind_of rows i) 5 ≡ a → eqb (kind_of rows i) 6 ≡ b → First i
      go true b p q = first-star i 1 h (and_right (eqb (arg_of rows i) 0) _ (form_keeps i 5 h (eqb-true _ 5 p)))
      go false true p q = first-star i 2 h (and_right (eqb (arg_of rows i) 0) _ (form_keeps i 6 h (eqb-true _ 6 q)))
      go false false p q =
          let k = kind_of rows i in
          let low : (n : ℕ) → n < 5 → k ≡ n → ⊥ = λ n b e. omega arith in
          let z = no-form k (low 0 (omega arith)) (low 1 (omega arith)) (low 2 (omega arith)) (low 3 (omega arith)) (low 4 (omega arith))
          (eqb-false k 5 p) (eqb-false k 6 q) in
          absurd (false≢true (rw z at (form_keeps i k h refl)))

  pub tree_of : 0 < #N → Tree rows #N
  tree_of some = record {
    nested = nested rows reads #V #N keep room few;
    whole = root_ends rows reads #V #N (keep 0 some);
    bare = λ i h k. (first-of-bound i h k).bare;
    ended = λ i h k. (candidate i h k).ended;
    starred = λ i h k. (candidate i h k).first.star;
  }

  module _ (chosen : List ℕ) (below : (k : ℕ) → k < length chosen → get_or chosen k 0 < #N)
      (ascend : (j k : ℕ) → j < k → k < length chosen → get_or chosen j 0 < get_or chosen k 0)
      (candidates : (k : ℕ) → k < length chosen → kind_of rows (get_or chosen k 0) ≡ 2) where
    one : (k : ℕ) → k < length chosen → Candidate (get_or chosen k 0)
    one k h = candidate (get_or chosen k 0) (below k h) (candidates k h)

    -- between two chosen labels stands the star of the first
    spaced : (k : ℕ) → k < length chosen → get_or chosen 0 0 + 2 * k ≤ get_or chosen k 0
    spaced zero h = omega arith
    spaced (suc k) h =
        let i = spaced k (omega arith) in
        let a = ascend k (suc k) (omega arith) h in
        let d = apart k h in
        pick (lt-or-le (get_or chosen k 0 + 1) (get_or chosen (suc k) 0)) (λ l. omega arith) (λ l. absurd (d (omega arith)))
      where
        apart : (k : ℕ) → suc k < length chosen → get_or chosen k 0 + 1 ≡ get_or chosen (suc k) 0 → ⊥
        apart k h e =
            let s = (one k (omega arith)).first.star in
            let c = candidates (suc k) h in
            let w = ap (kind_of rows) e in
            omega arith

    at_most : 0 < #N → length chosen ≤ 2047
    at_most some = pick (lt-or-le 2047 (length chosen)) (λ h. absurd (many h)) (λ h. h)
      where
        many : 2047 < length chosen → ⊥
        many h =
            let s = spaced 2047 h in
            let e = (one 2047 h).ended in
            let w = within (get_or chosen 2047 0) (below 2047 h) in
            let first : get_or chosen 0 0 ≡ 0 = omega arith in
            let f = (one 0 (omega arith)).ended in
            let z = ap (end_of rows) first in
            let t = (tree_of some).whole in
            omega arith

    pub chosen_of : 0 < #N → #V ≤ most_variables → Chosen rows chosen #N
    chosen_of some small = record {
      tree = tree_of some;
      few = at_most some;
      below = λ k h. let e = (one k h).ended in let w = within (get_or chosen k 0) (below k h) in omega arith;
      ascend = ascend;
      candidates = candidates;
      variables = λ k h. let l = (one k h).low in omega arith;
    }
