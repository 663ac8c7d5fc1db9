-- Whether two candidates share a branch, found on the way up from one of them, j, to the first row that is over the other, i:
-- a row under that one, but not under its child on the way, has it for the last row over both it and j.
use Prim.Native.Nat.{ℕ, ◌+◌, ◌<◌, ◌≤◌}
use native.Mathlib.Omega.{arith}
use native.Mathlib.Nat.{eq-or-lt_of_le}
use mathlib.Core.Path.{◌≡◌, sym, ap, subst, ◌∙◌}
use mathlib.Core.Bool.{true, false, cond, ◌&&◌}
use mathlib.Core.List.{List}
use lib.Dec.{eqb, ltb}
use lib.ListN.{get_or}
use borrow.Author.Tests.{eq-eqb, ne_eqb, lt-ltb, le-ltb, ltb-true}
use Rattle.paper.proofs.Bools.{and_left, and_right, both, not_so, or_left, or_right, pick}
use Rattle.rows.specs.Rows.{kind_of, end_of, form_of}
use Rattle.rows.specs.declared.form.Form.TheVariants as form
use Rattle.rows.proofs.Rules.{KindIs, is-conjunction, kind_is}
use Rattle.entries.proofs.First.{first_found, first-none}
use Rattle.rows.proofs.Meets.{lt-or-le}
use Rattle.rows.specs.Inside.Tree.{is_under}
use Rattle.net.specs.Inside.Prior.{over_both, share_branch_in}
use Rattle.net.specs.Inside.Net.{Tree, Parents, Cleared, towards, clear_to}
use Rattle.paper.proofs.Last.{last-is}
use Rattle.net.proofs.Climb.{under, under-from, under_to, under-not, Parent, parent_by}

-- kind word 3 is a conjunction's, and no other
pub is_conjunction : (k : ℕ) → form_of k ≡ form.Conjunction → k ≡ 3
is_conjunction k e = named (subst (KindIs k) e (kind_is k))
  where
    named : KindIs k form.Conjunction → k ≡ 3
    named (is-conjunction p) = p

pub conjunction-form : (k : ℕ) → k ≡ 3 → form_of k ≡ form.Conjunction
unfolding form_of
conjunction-form k e = rw e

-- where two candidates share a branch, or not
joined_to : (rows : List ℕ) (i j : ℕ) → share_branch_in rows i j ≡ true → i ≡ clear_to rows i j
unfolding clear_to
joined_to rows i j e = rw e

apart-to : (rows : List ℕ) (i j top below : ℕ) → share_branch_in rows i j ≡ false → over_both rows i j ≡ top → towards rows top j ≡ below
    → clear_to rows i j ≡ cond (ltb i below) below (end_of rows top)
unfolding clear_to
apart-to rows i j top below e o t = rw (e, o, t)

same-together : (rows : List ℕ) (i j : ℕ) → i ≡ j → share_branch_in rows i j ≡ true
unfolding share_branch_in
same-together rows i j e = or_left (eqb i j) _ (eq-eqb i j e)

pub cleared-same : (rows : List ℕ) (i j : ℕ) → i ≡ j → Cleared rows i j i
cleared-same rows i j e = record {
  exactly = joined_to rows i j (same-together rows i j e);
  from = omega arith;
  shared = λ _. same-together rows i j e;
  apart = λ x a b. absurd (omega arith);
}

-- two candidates of a tree
pub record Pair (rows : List ℕ) (#N i j : ℕ) : Type 0 where
  pub tree : Tree rows #N
  pub here : i < #N
  pub there : j < #N
  pub one : kind_of rows i ≡ 2
  pub other : kind_of rows j ≡ 2

-- on the way up from row j, past row below: row top is right over it, and it is over j and not over i
pub record Upward (rows : List ℕ) (i j below top : ℕ) : Type 0 where
  pub up : Parent rows below top
  pub from : below ≤ j
  pub to : j < end_of rows below
  pub misses : below ≤ i → end_of rows below ≤ i

-- row x lies under top, but not under below
record Beside (rows : List ℕ) (below top x : ℕ) : Type 0 where
  after : top < x
  before : x < end_of rows top
  misses : below ≤ x → end_of rows below ≤ x

module _ {rows : List ℕ} {#N : ℕ} (t : Tree rows #N) where
  -- a row over another ends no sooner
  ends-inside : (a b : ℕ) → a < #N → a ≤ b → b < end_of rows a → end_of rows b ≤ end_of rows a
  ends-inside a b h k l =
      pick (eq-or-lt_of_le k) (λ e. let z = ap (end_of rows) e in omega arith) (λ m. t.nested.nested a b m l (t.nested.within a h))

  -- a candidate is over no other
  ended_by : (i j : ℕ) → i < #N → kind_of rows i ≡ 2 → kind_of rows j ≡ 2 → i < j → end_of rows i ≤ j
  ended_by i j h k l m = let e = t.ended i h k in pick (lt-or-le (i + 1) j) (λ n. omega arith) (λ n. absurd (star (omega arith)))
    where
      star : i + 1 ≡ j → ⊥
      star e = let w = ap (kind_of rows) e in let s = t.starred i h k in omega arith

  -- only the first row is over all
  not_first : {i : ℕ} (a : ℕ) → i < #N → (a ≤ i → end_of rows a ≤ i) → 0 < a
  not_first {i} a h m = pick (lt-or-le 0 a) (λ k. k) (λ k. absurd (first (omega arith)))
    where
      first : a ≡ 0 → ⊥
      first e = let z = ap (end_of rows) e in let w = t.whole in let k = m (omega arith) in omega arith

module _ {rows : List ℕ} {#N i j : ℕ} (q : Pair rows #N i j) where
  module _ {below top : ℕ} (u : Upward rows i j below top) where
    -- row top is over j
    top_from : top < j
    top_from = let l = u.up.reached.below in let f = u.from in omega arith

    top_to : j < end_of rows top
    top_to =
        let l = u.up.reached.below in
        let f = u.from in
        let o = u.to in
        let h = q.there in
        let n = ends-inside q.tree top below (omega arith) (omega arith) u.up.over in
        omega arith

    pub top_below : top < #N
    top_below = let l = top_from in let h = q.there in omega arith

    -- row below is the first past top that is over j
    on-the-way : towards rows top j ≡ below
    unfolding towards
    on-the-way = pick (eq-or-lt_of_le u.from) (λ e. first-none _ j (λ k h. passed k (omega arith)) ∙ sym e)
        (λ h. first_found _ j below passed h
        (both _ _ (lt-ltb top below u.up.reached.below) (under rows below j u.from u.to)))
      where
        passed : (b : ℕ) → b < below → (ltb top b && is_under rows b j) ≡ false
        passed b h =
            not_so _
            (λ e.
            let l = ltb-true top b (and_left (ltb top b) _ e) in
            let o = under_to rows b j (and_right (ltb top b) _ e) in
            let z = u.up.reached.passed b l h in
            let f = u.from in
            omega arith)

    -- the last row over j and a row beside the way
    last-over : (x : ℕ) → Beside rows below top x → over_both rows x j ≡ top
    unfolding over_both
    last-over x b = last-is (λ a. is_under rows a x && is_under rows a j) 0 x top record {
      below = b.after;
      passes =
          let a = b.after in let f = top_from in both _ _ (under rows top x (omega arith) b.before) (under rows top j (omega arith) top_to);
      above = λ a k l. not_so _ (λ e. above a k l (and_left (is_under rows a x) _ e) (and_right (is_under rows a x) _ e));
    }
      where
        above : (a : ℕ) → top < a → a < x → is_under rows a x ≡ true → is_under rows a j ≡ true → ⊥
        above a k l over-x over-j =
            let to-x = under_to rows a x over-x in
            let from-j = under-from rows a j over-j in
            let to_j = under_to rows a j over-j in
            let f = u.from in
            let o = u.to in
            let h = q.there in
            pick (lt-or-le a below) (λ m. let z = u.up.reached.passed a k m in omega arith)
            (λ m. let z = ends-inside q.tree below a (omega arith) m (omega arith) in let w = b.misses (omega arith) in omega arith)

    -- what the kind of row top tells of it
    shares : (x : ℕ) → Beside rows below top x → kind_of rows top ≡ 3 → share_branch_in rows x j ≡ true
    unfolding share_branch_in
    shares x b k = or_right (eqb x j) _ (eq-eqb _ 3 (ap (kind_of rows) (last-over x b) ∙ k))

    shares-none : (x : ℕ) → Beside rows below top x → (kind_of rows top ≡ 3 → ⊥) → share_branch_in rows x j ≡ false
    unfolding share_branch_in
    shares-none x b k =
        rw (ne_eqb x j distinct, ne_eqb (kind_of rows (over_both rows x j)) 3 (λ e. k (sym (ap (kind_of rows) (last-over x b)) ∙ e)))
      where
        distinct : x ≡ j → ⊥
        distinct e = let f = u.from in let o = u.to in let m = b.misses (omega arith) in omega arith

    module _ (over : is_under rows top i ≡ true) where
      -- the first row over i is not i itself
      beside : (x : ℕ) → i ≤ x → x < end_of rows top → (below ≤ x → end_of rows below ≤ x) → Beside rows below top x
      beside x l m n = record {
        after = pick (eq-or-lt_of_le (under-from rows top i over)) (λ e. absurd (itself e)) (λ g. omega arith);
        before = m;
        misses = n;
      }
        where
          itself : top ≡ i → ⊥
          itself e =
              let f = top_from in
              let o = top_to in
              let z = ended_by q.tree i j q.here q.one q.other (omega arith) in
              let w = ap (end_of rows) e in
              omega arith

      here : Beside rows below top i
      here = beside i (omega arith) (under_to rows top i over) u.misses

      -- top is a conjunction
      pub cleared-joined : kind_of rows top ≡ 3 → Cleared rows i j i
      cleared-joined k = record {
        exactly = joined_to rows i j (shares i here k);
        from = omega arith;
        shared = λ _. shares i here k;
        apart = λ x a b. absurd (omega arith);
      }

      -- it is none: nothing from i up to below shares a branch with j, or nothing from i up to the end of top
      none-to : (kind_of rows top ≡ 3 → ⊥) → clear_to rows i j ≡ cond (ltb i below) below (end_of rows top)
      none-to k = apart-to rows i j top below (shares-none i here k) (last-over i here) on-the-way

      pub cleared-before : (kind_of rows top ≡ 3 → ⊥) → i < below → Cleared rows i j below
      cleared-before k l = record {
        exactly = sym (none-to k ∙ rw (lt-ltb i below l));
        from = omega arith;
        shared = λ e. absurd (omega arith);
        apart = λ x a b. shares-none x (beside x a (let o = u.up.over in omega arith) (λ c. absurd (omega arith))) k;
      }

      pub cleared-after : {end : ℕ} → (kind_of rows top ≡ 3 → ⊥) → below ≤ i → end ≡ end_of rows top → Cleared rows i j end
      cleared-after k l e = let o = under_to rows top i over in record {
        exactly = e ∙ sym (none-to k ∙ rw (le-ltb i below l));
        from = omega arith;
        shared = λ s. absurd (omega arith);
        apart = λ x a b. shares-none x (beside x a (omega arith) (λ _. let m = u.misses l in omega arith)) k;
      }

  module _ {words : List ℕ} (p : Parents rows #N words) where
    -- the way begins at j
    pub upward-first : {top : ℕ} → (i ≡ j → ⊥) → top ≡ get_or words j 0 → Upward rows i j j top
    upward-first {top} d e = record {
      up = parent_by rows #N j top q.tree some q.there (e ∙ p.parents j some q.there);
      from = omega arith;
      to = q.tree.nested.rises j q.there;
      misses = past;
    }
      where
        past : j ≤ i → end_of rows j ≤ i
        past h = pick (eq-or-lt_of_le h) (λ z. absurd (d (sym z))) (ended_by q.tree j i q.there q.other q.one)

        some : 0 < j
        some = not_first q.tree j q.here past

    -- and goes on from a row that is not over i
    pub upward-next : {below top next : ℕ} → Upward rows i j below top → is_under rows top i ≡ false → next ≡ get_or words top 0 → Upward rows i j top next
    upward-next {below} {top} {next} u e z =
        let some = not_first q.tree top q.here (under-not rows top i e) in
        record {
          up = parent_by rows #N top next q.tree some (top_below u) (z ∙ p.parents top some (top_below u));
          from = let f = top_from u in omega arith;
          to = top_to u;
          misses = under-not rows top i e;
        }
