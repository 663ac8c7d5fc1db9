-- The guards around a row, followed from the inside: the innermost guard's star reads, or a guard around that star does.
-- A guard around the row is the innermost one, or lies around its star, since the rows nest.
use Prim.Native.Nat.{ℕ, ◌+◌, ◌<◌, ◌≤◌}
use native.Mathlib.Omega.{arith}
use mathlib.Core.Path.{◌≡◌, refl, sym, subst, ap, ◌∙◌}
use mathlib.Core.Bool.{true, false, ◌&&◌, ◌||◌}
use mathlib.Core.List.{List}
use lib.Dec.{ltb}
use borrow.Author.Tests.{ltb-true, lt-ltb}
use Rattle.paper.proofs.UpTo.{in-up_to, of-up_to}
use Rattle.paper.specs.Lists.{any_of}
use Rattle.paper.proofs.Bools.{both, and_left, and_right, or_left, or_right, or_cases, not_so, same_answer, pick}
use Rattle.paper.proofs.Lists.{to-any, of-any}
use Rattle.rows.specs.Rows.{kind_of, end_of}
use Rattle.paper.specs.Lists.{up_to, last_of}
use Rattle.rows.specs.Inside.Tree.{is_guarded, guard_of}
use Rattle.net.specs.Inside.Prior.{star_reads, around, is_frozen}
use Rattle.net.specs.Inside.Net.{Tree}
use Rattle.paper.proofs.Last.{Last, last-of}
use Rattle.paper.proofs.Tests.{by, by-eq, by-lt, never}

-- row a is an exists or an IF, and row i lies under it, past its star
record Guarding (rows : List ℕ) (a i : ℕ) : Type 0 where
  kind : 4 < kind_of rows a
  past : a + 1 < i
  under : i < end_of rows a

guarding : (rows : List ℕ) (a i : ℕ) → is_guarded rows a i ≡ true → Guarding rows a i
guarding rows a i e =
    let t = and_right (ltb 4 (kind_of rows a)) _ e in
    record {
      kind = ltb-true 4 (kind_of rows a) (and_left (ltb 4 (kind_of rows a)) _ e);
      past = ltb-true (a + 1) i (and_left (ltb (a + 1) i) _ t);
      under = ltb-true i (end_of rows a) (and_right (ltb (a + 1) i) _ t);
    }

guarded-by : (rows : List ℕ) (a i : ℕ) → Guarding rows a i → is_guarded rows a i ≡ true
guarded-by rows a i w =
    both (ltb 4 (kind_of rows a)) _ (lt-ltb 4 (kind_of rows a) w.kind)
    (both (ltb (a + 1) i) _ (lt-ltb (a + 1) i w.past) (lt-ltb i (end_of rows a) w.under))

module _ (rows reads : List ℕ) (v : ℕ) where
  -- a guard around row i that reads v
  record Reader (i : ℕ) : Type 0 where
    row : ℕ
    guards : Guarding rows row i
    reads-it : star_reads rows reads (row + 1) v ≡ true

  reader : (i : ℕ) → around rows reads i v ≡ true → Reader i
  unfolding around
  reader i e =
      let (a, t, q) = of-any (λ a. is_guarded rows a i && star_reads rows reads (a + 1) v) (up_to i) e in
      record { row = a; guards = guarding rows a i (and_left (is_guarded rows a i) _ q); reads-it = and_right (is_guarded rows a i) _ q }

  read-around : (i : ℕ) → Reader i → around rows reads i v ≡ true
  unfolding around
  read-around i w =
      let z = w.guards.past in
      to-any (λ a. is_guarded rows a i && star_reads rows reads (a + 1) v) (in-up_to i w.row (omega arith))
      (both (is_guarded rows w.row i) _ (guarded-by rows w.row i w.guards) w.reads-it)

module _ (rows reads : List ℕ) (#N : ℕ) (tree : Tree rows #N) where
  -- a row under a row, past it, ends within it
  ends-in : (a b : ℕ) → a < #N → a < b → b < end_of rows a → end_of rows b ≤ end_of rows a
  ends-in a b ha l h = tree.nested.nested a b l h (tree.nested.within a ha)

  -- the innermost guard around row s, of which o is the star
  pub record Innermost (s o : ℕ) : Type 0 where
    pub below : o < s
    pub row : ℕ
    pub next : o ≡ row + 1
    pub kind : 4 < kind_of rows row
    pub outward : (v : ℕ) → around rows reads s v ≡ (star_reads rows reads o v || around rows reads o v)

  innermost : (s a : ℕ) → s < #N → Last (λ a. is_guarded rows a s) s a → Innermost s (a + 1)
  innermost s a hs l = record { below = w.past; row = a; next = refl; kind = w.kind; outward = λ v. same_answer _ _ (out v) (back v) }
    where
      w : Guarding rows a s
      w = guarding rows a s l.passes

      out : (v : ℕ) → around rows reads s v ≡ true → (star_reads rows reads (a + 1) v || around rows reads (a + 1) v) ≡ true
      out v e =
          let r = reader rows reads v s e in
          let z = r.guards.past in
          let y = w.past in
          by-lt a r.row
          (λ m. never (is_guarded rows r.row s) (guarded-by rows r.row s r.guards) (l.above r.row m (omega arith)))
          (λ m. by-eq r.row a
          (λ q. or_left (star_reads rows reads (a + 1) v) _ (subst (λ x. star_reads rows reads (x + 1) v ≡ true) q r.reads-it))
          (λ d. or_right (star_reads rows reads (a + 1) v) _ (read-around rows reads v (a + 1) (record {
            row = r.row;
            guards = record { kind = r.guards.kind; past = omega arith; under = let x = r.guards.under in omega arith };
            reads-it = r.reads-it;
          }))))

      back : (v : ℕ) → (star_reads rows reads (a + 1) v || around rows reads (a + 1) v) ≡ true → around rows reads s v ≡ true
      back v e =
          pick (or_cases (star_reads rows reads (a + 1) v) _ e)
          (λ q. read-around rows reads v s (record { row = a; guards = w; reads-it = q }))
          (λ q. let r = reader rows reads v (a + 1) q in
          let z = r.guards.past in
          let y = r.guards.under in
          let x = w.past in
          let n = ends-in r.row a (omega arith) (omega arith) (omega arith) in
          read-around rows reads v s (record {
            row = r.row;
            guards = record { kind = r.guards.kind; past = omega arith; under = let u = w.under in omega arith };
            reads-it = r.reads-it;
          }))

  some-guard : (s : ℕ) → any_of (λ a. is_guarded rows a s) (up_to s) ≡ true → (a : ℕ) × Last (λ a. is_guarded rows a s) s a × (guard_of rows s ≡ a + 1)
  unfolding guard_of
  some-guard s e =
      let (b, t, q) = of-any (λ a. is_guarded rows a s) (up_to s) e in
      (last_of (λ a. is_guarded rows a s) 0 s, last-of (λ a. is_guarded rows a s) 0 s b (of-up_to s b t) q, rw e)

  -- where no guard is noted there is none; what is noted is the innermost
  pub no-guard : (s v : ℕ) → guard_of rows s ≡ 0 → around rows reads s v ≡ false
  no-guard s v e =
      not_so _ (λ q. let r = reader rows reads v s q in
      let z = r.guards.past in
      let (a, l, g) = some-guard s (to-any (λ a. is_guarded rows a s) (in-up_to s r.row (omega arith)) (guarded-by rows r.row s r.guards)) in
      omega arith)

  guard-off : (s : ℕ) → any_of (λ a. is_guarded rows a s) (up_to s) ≡ false → guard_of rows s ≡ 0
  unfolding guard_of
  guard-off s e = rw e

  pub the-guard : (s : ℕ) → s < #N → 0 < guard_of rows s → Innermost s (guard_of rows s)
  the-guard s hs h =
      by (any_of (λ a. is_guarded rows a s) (up_to s))
      (λ e. let (a, l, g) = some-guard s e in subst (Innermost s) (sym g) (innermost s a hs l))
      (λ e. absurd (let z = guard-off s e in omega arith))

  -- what is frozen at a candidate is read by its star or by a guard around that
  module _ (starred : (a : ℕ) → a < #N → 4 < kind_of rows a → kind_of rows (a + 1) ≡ 1) where
    same-guards : (i v : ℕ) → i < #N → kind_of rows i ≡ 2 → around rows reads i v ≡ around rows reads (i + 1) v
    same-guards i v hi k = same_answer _ _ out back
      where
        out : around rows reads i v ≡ true → around rows reads (i + 1) v ≡ true
        out e =
            let r = reader rows reads v i e in
            let z = r.guards.past in
            let y = ends-in r.row i (omega arith) (omega arith) r.guards.under in
            read-around rows reads v (i + 1) (record {
              row = r.row;
              guards = record { kind = r.guards.kind; past = omega arith; under = let x = tree.ended i hi k in omega arith };
              reads-it = r.reads-it;
            })

        back : around rows reads (i + 1) v ≡ true → around rows reads i v ≡ true
        back e =
            let r = reader rows reads v (i + 1) e in
            let z = r.guards.past in
            let y = r.guards.under in
            read-around rows reads v i (record {
              row = r.row;
              guards = record {
                kind = r.guards.kind;
                past = by-eq (r.row + 1) i
                    (λ q. absurd (omega (arith, starred r.row (omega arith) r.guards.kind, ap (λ (x : ℕ). kind_of rows x) q)))
                    (λ d. omega arith);
                under = omega arith;
              };
              reads-it = r.reads-it;
            })

    own-or-around : (i v : ℕ) → is_frozen rows reads i v ≡ (star_reads rows reads (i + 1) v || around rows reads i v)
    unfolding is_frozen
    own-or-around i v = refl

    pub frozen-is : (i v : ℕ) → i < #N → kind_of rows i ≡ 2 → is_frozen rows reads i v ≡ (star_reads rows reads (i + 1) v || around rows reads (i + 1) v)
    frozen-is i v hi k = own-or-around i v ∙ ap (λ b. star_reads rows reads (i + 1) v || b) (same-guards i v hi k)
