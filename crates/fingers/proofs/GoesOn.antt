-- From a spot to the spot after it: past an index, into the next read, out to the star around. What lay from the one on
-- lies from the other on, but for the index passed.
use Prim.Native.Nat.{ℕ, suc, ◌+◌, ◌-◌, ◌<◌, ◌≤◌}
use native.Mathlib.Omega.{arith}
use native.Mathlib.Numerals.{add-one}
use mathlib.Core.Path.{◌≡◌, refl, sym, ap, ◌∙◌}
use mathlib.Core.Bool.{Bool, true, false, ◌&&◌, ◌||◌, not}
use mathlib.Core.List.{List}
use lib.Dec.{eqb, ltb, leb}
use lib.ListN.{length, get_or, take, drop}
use lib.Seq.{drop-cons}
use borrow.Author.Tests.{eq-eqb, ne_eqb, eqb-true, lt-ltb, le-ltb, ltb-true, le-leb, leb-true}
use Rattle.paper.specs.Lists.{any_of}
use Rattle.paper.proofs.Bools.{both, and_left, and_right, or_left, or_right, or_cases, same_answer, pick}
use Rattle.entries.specs.First.{first}
use Rattle.rows.specs.Rows.{kind_of, arg_of, from_of}
use Rattle.entries.proofs.First.{first-le, first-at, first_below}
use Rattle.rows.specs.Inside.Tree.{guard_of}
use Rattle.net.specs.Inside.Prior.{star_reads, around, variable_of}
use Rattle.net.specs.Inside.Net.{first_with}
use Rattle.net.specs.declared.Net.{Net}
use Rattle.fingers.specs.Inside.Followable.{Followable}
use Rattle.fingers.specs.Inside.Spots.{stop_of, reads_any, packed, pending, ahead, spot_after, IsSpot, After}
use Rattle.paper.proofs.Tests.{by-eq, by-lt, never}
use Rattle.fingers.proofs.Guards.{Innermost, no-guard, the-guard}

-- the first index of a variable from k on
module _ (rows chosen : List ℕ) (v k : ℕ) (h : k ≤ length chosen) where
  abbrev is_of : ℕ → Bool
  is_of m = eqb (arg_of rows (get_or chosen (k + m) 0)) v

  with_in : (k ≤ first_with rows chosen v k) × (first_with rows chosen v k ≤ length chosen)
  unfolding first_with
  with_in = let z = first-le is_of (length chosen - k) in (omega arith, omega arith)

  with-of : first_with rows chosen v k < length chosen → arg_of rows (get_or chosen (first_with rows chosen v k) 0) ≡ v
  unfolding first_with
  with-of l = eqb-true _ v (first-at is_of (length chosen - k) (omega arith))

  with-low : (i : ℕ) → k ≤ i → i < length chosen → arg_of rows (get_or chosen i 0) ≡ v → first_with rows chosen v k ≤ i
  unfolding first_with
  with-low i l m e =
      by-lt i (k + first is_of (length chosen - k))
      (λ q. let same : k + (i - k) ≡ i = omega arith in
      never (is_of (i - k)) (eq-eqb _ v (ap (λ z. arg_of rows (get_or chosen z 0)) same ∙ e)) (first_below is_of (length chosen - k) (i - k) (omega arith)))
      (λ q. q)

-- a read from a on is the read at a, or one after it
pub reads-step : (reads : List ℕ) (a b v : ℕ) → a < b → b ≤ length reads → reads_any reads a b v ≡ (eqb v (get_or reads a 0) || reads_any reads (a + 1) b v)
unfolding reads_any
reads-step reads a b v h l =
    ap (any_of (eqb v)) (ap (λ n. take n (drop a reads)) less ∙ ap (take (suc (b - (a + 1)))) (drop-cons reads a 0 (omega arith)))
    ∙ ap (λ z. eqb v (get_or reads a 0) || any_of (eqb v) (take (b - (a + 1)) (drop z reads))) (sym (add-one a))
  where
    less : b - a ≡ suc (b - (a + 1))
    less = omega arith

pub reads_none : (reads : List ℕ) (a b v : ℕ) → b ≤ a → reads_any reads a b v ≡ false
unfolding reads_any
reads_none reads a b v h = let e : b - a ≡ 0 = omega arith in rw e

pub reads-hit : (reads : List ℕ) (a b v : ℕ) → a < b → b ≤ length reads → get_or reads a 0 ≡ v → reads_any reads a b v ≡ true
reads-hit reads a b v h l e = reads-step reads a b v h l ∙ or_left (eqb v (get_or reads a 0)) _ (eq-eqb _ _ (sym e))

pub reads-miss : (reads : List ℕ) (a b v : ℕ) → a < b → b ≤ length reads → (get_or reads a 0 ≡ v → ⊥) → reads_any reads (a + 1) b v ≡ reads_any reads a b v
reads-miss reads a b v h l d = sym (reads-step reads a b v h l ∙ rw (ne_eqb v (get_or reads a 0) (λ e. d (sym e))))

-- what a star reads, as reads from its first on
pub star-reads : (rows reads : List ℕ) (s v : ℕ) → star_reads rows reads s v ≡ reads_any reads (from_of rows s) (stop_of rows s) v
unfolding star_reads reads_any
star-reads rows reads s v = let e : stop_of rows s - from_of rows s ≡ arg_of rows s = omega arith in rw e

module _ (rows reads chosen : List ℕ) where
  -- the parts of what lies from a spot on
  pub data Part (s r k i : ℕ) : Type 0 where
    chained : k < length chosen → variable_of rows chosen k ≡ variable_of rows chosen i → k ≤ i → Part s r k i
    read_later : reads_any reads r (stop_of rows s) (variable_of rows chosen i) ≡ true → Part s r k i
    read_around : around rows reads s (variable_of rows chosen i) ≡ true → Part s r k i

  pub parts : (s r k i : ℕ) → pending rows reads chosen s r k i ≡ true → Part s r k i
  unfolding pending
  parts s r k i e =
      pick (or_cases (ltb k (length chosen) && (eqb (variable_of rows chosen k) (variable_of rows chosen i) && leb k i)) _ (and_right (not (eqb s 0)) _ e))
      (λ q. let z = and_right (ltb k (length chosen)) _ q in
      chained (ltb-true k (length chosen) (and_left (ltb k (length chosen)) _ q))
      (eqb-true _ _ (and_left (eqb (variable_of rows chosen k) (variable_of rows chosen i)) _ z))
      (leb-true k i (and_right (eqb (variable_of rows chosen k) (variable_of rows chosen i)) _ z)))
      (λ q. pick (or_cases (reads_any reads r (stop_of rows s) (variable_of rows chosen i)) _ q) read_later read_around)

  pub joins : (s r k i : ℕ) → 0 < s → Part s r k i → pending rows reads chosen s r k i ≡ true
  unfolding pending
  joins s r k i h p = both (not (eqb s 0)) _ (ap not (ne_eqb s 0 (λ e. omega arith))) (one p)
    where
      chain : Bool
      chain = ltb k (length chosen) && (eqb (variable_of rows chosen k) (variable_of rows chosen i) && leb k i)

      one : Part s r k i → (chain || (reads_any reads r (stop_of rows s) (variable_of rows chosen i) || around rows reads s (variable_of rows chosen i))) ≡ true
      one (chained a b c) =
          or_left chain _ (both (ltb k (length chosen)) _ (lt-ltb k (length chosen) a)
          (both (eqb (variable_of rows chosen k) (variable_of rows chosen i)) _ (eq-eqb _ _ b) (le-leb k i c)))
      one (read_later a) = or_right chain _ (or_left (reads_any reads r (stop_of rows s) (variable_of rows chosen i)) _ a)
      one (read_around a) = or_right chain _ (or_right (reads_any reads r (stop_of rows s) (variable_of rows chosen i)) _ a)

  pub some-star : (s r k i : ℕ) → pending rows reads chosen s r k i ≡ true → 0 < s
  unfolding pending
  some-star s r k i e = by-eq s 0 (λ q. never _ (and_left (not (eqb s 0)) _ e) (ap not (eq-eqb s 0 q))) (λ q. omega arith)

  pub ahead-is : (s r k : ℕ) → 0 < s → ahead rows chosen s r k ≡ packed s (stop_of rows s - r) (length chosen - k)
  unfolding ahead
  ahead-is s r k h = rw (ne_eqb s 0 (λ e. omega arith))

  pub ahead_none : (r k : ℕ) → ahead rows chosen 0 r k ≡ 0
  unfolding ahead
  ahead_none r k = refl

  -- before all that a star reads: what the star and the guards around it read
  pub opened : (s i : ℕ) → 0 < s
      → pending rows reads chosen s (from_of rows s) (length chosen) i
      ≡ (star_reads rows reads s (variable_of rows chosen i) || around rows reads s (variable_of rows chosen i))
  opened s i h = same_answer _ _
      (λ e. out (parts s (from_of rows s) (length chosen) i e))
      (λ e. joins s (from_of rows s) (length chosen) i h (pick (or_cases (star_reads rows reads s (variable_of rows chosen i)) _ e)
      (λ q. read_later (sym (star-reads rows reads s (variable_of rows chosen i)) ∙ q)) read_around))
    where
      out : Part s (from_of rows s) (length chosen) i
          → (star_reads rows reads s (variable_of rows chosen i) || around rows reads s (variable_of rows chosen i)) ≡ true
      out (chained a b c) = absurd (omega arith)
      out (read_later a) = or_left (star_reads rows reads s (variable_of rows chosen i)) _ (star-reads rows reads s (variable_of rows chosen i) ∙ a)
      out (read_around a) = or_right (star_reads rows reads s (variable_of rows chosen i)) _ a

  module _ (net : Net) (#N : ℕ) (ready : Followable rows reads chosen net #N) (s r k : ℕ) (P : IsSpot rows chosen #N s r k) (h : 0 < s) where
    -- the reads of a star are there
    pub stop-in : stop_of rows s ≤ length reads
    stop-in = ready.read s P.star (P.kind h)

    -- k < length chosen: the next index of its variable
    pub after-index : k < length chosen → After rows reads chosen #N s r k s r (get_or net.nexts k 0)
    unfolding spot_after
    after-index l = rw (ready.netted.nexts k l) (record {
      spot = record { star = P.star; kind = P.kind; read = P.read; index = next-in.1 };
      old = λ i e. joins s r k i h (old i (parts s r next i e));
      less = let z = next-in in omega (arith, ahead-is s r k h, ahead-is s r next h);
      only = λ i hi e f. (l, by-eq i k (λ q. q) (λ d. never _ (joins s r next i h (new i hi d (parts s r k i e))) f));
      exactly = rw (lt-ltb k (length chosen) l);
    })
      where
        next : ℕ
        next = first_with rows chosen (variable_of rows chosen k) (k + 1)

        next-in : (k + 1 ≤ next) × (next ≤ length chosen)
        next-in = with_in rows chosen (variable_of rows chosen k) (k + 1) (omega arith)

        next_of : next < length chosen → variable_of rows chosen next ≡ variable_of rows chosen k
        next_of = with-of rows chosen (variable_of rows chosen k) (k + 1) (omega arith)

        old : (i : ℕ) → Part s r next i → Part s r k i
        old i (chained a b c) = chained l (sym (next_of a) ∙ b) (let z = next-in in omega arith)
        old i (read_later a) = read_later a
        old i (read_around a) = read_around a

        new : (i : ℕ) → i < length chosen → (i ≡ k → ⊥) → Part s r k i → Part s r next i
        new i hi d (chained a b c) =
            let z = with-low rows chosen (variable_of rows chosen k) (k + 1) (omega arith) i (omega arith) hi (sym b) in
            let y : next < length chosen = omega arith in
            chained y (next_of y ∙ b) z
        new i hi d (read_later a) = read_later a
        new i hi d (read_around a) = read_around a

    -- all indices of a read are passed: the next read, and the first index of its variable
    pub after_read : length chosen ≤ k → r < stop_of rows s → After rows reads chosen #N s r k s (r + 1) (get_or net.firsts (get_or reads r 0) 0)
    unfolding spot_after
    after_read l m = rw (ready.netted.firsts v (ready.variables r (let z = stop-in in omega arith))) (record {
      spot = record {
        star = P.star;
        kind = P.kind;
        read = λ _. let z = stop-in in omega (arith, ready.few);
        index = (with_in rows chosen v 0 (omega arith)).1;
      };
      old = λ i e. joins s r k i h (old i (parts s (r + 1) start i e));
      less = omega (arith, ahead-is s r k h, ahead-is s (r + 1) start h, ready.choice.few);
      only = λ i hi e f. never _ (joins s (r + 1) start i h (new i hi (parts s r k i e))) f;
      exactly = rw (le-ltb k (length chosen) l, lt-ltb r (stop_of rows s) m);
    })
      where
        v : ℕ
        v = get_or reads r 0

        start : ℕ
        start = first_with rows chosen v 0

        start_of : start < length chosen → variable_of rows chosen start ≡ v
        start_of = with-of rows chosen v 0 (omega arith)

        taken : (x : ℕ) → reads_any reads r (stop_of rows s) x ≡ (eqb x v || reads_any reads (r + 1) (stop_of rows s) x)
        taken x = reads-step reads r (stop_of rows s) x m stop-in

        old : (i : ℕ) → Part s (r + 1) start i → Part s r k i
        old i (chained a b c) = read_later (taken (variable_of rows chosen i) ∙ or_left (eqb (variable_of rows chosen i) v) _ (eq-eqb _ _ (sym b ∙ start_of a)))
        old i (read_later a) = read_later (taken (variable_of rows chosen i) ∙ or_right (eqb (variable_of rows chosen i) v) _ a)
        old i (read_around a) = read_around a

        new : (i : ℕ) → i < length chosen → Part s r k i → Part s (r + 1) start i
        new i hi (chained a b c) = absurd (omega arith)
        new i hi (read_later a) =
            pick (or_cases (eqb (variable_of rows chosen i) v) _ (sym (taken (variable_of rows chosen i)) ∙ a))
            (λ q. let e = eqb-true (variable_of rows chosen i) v q in
            let z = with-low rows chosen v 0 (omega arith) i (omega arith) hi e in
            let y : start < length chosen = omega arith in
            chained y (start_of y ∙ sym e) z)
            read_later
        new i hi (read_around a) = read_around a

    -- all reads of a star are passed: the star around it
    past-star : length chosen ≤ k → stop_of rows s ≤ r → (guard_of rows s, from_of rows (guard_of rows s), length chosen) ≡ spot_after rows reads chosen s r k
    unfolding spot_after
    past-star l m = rw (le-ltb k (length chosen) l, le-ltb r (stop_of rows s) m)

    pub after-star : length chosen ≤ k → stop_of rows s ≤ r
        → After rows reads chosen #N s r k (get_or net.guards s 0) (from_of rows (get_or net.guards s 0)) (length chosen)
    after-star l m = rw (ready.netted.guards.guards s P.star) (by-lt 0 (guard_of rows s) some-guard no_more)
      where
        from-here : (i : ℕ) → pending rows reads chosen s r k i ≡ true → around rows reads s (variable_of rows chosen i) ≡ true
        from-here i e = go (parts s r k i e)
          where
            go : Part s r k i → around rows reads s (variable_of rows chosen i) ≡ true
            go (chained a b c) = absurd (omega arith)
            go (read_later a) = never _ a (reads_none reads r (stop_of rows s) (variable_of rows chosen i) m)
            go (read_around a) = a

        no_more : guard_of rows s ≤ 0 → After rows reads chosen #N s r k (guard_of rows s) (from_of rows (guard_of rows s)) (length chosen)
        no_more none = let e : guard_of rows s ≡ 0 = omega arith in rw e (record {
          spot = record { star = let z = P.star in omega arith; kind = λ q. absurd (omega arith); read = λ q. absurd (omega arith); index = omega arith };
          old = λ i q. absurd (let z = some-star 0 (from_of rows 0) (length chosen) i q in omega arith);
          less = omega (arith, ahead-is s r k h, ahead_none (from_of rows 0) (length chosen));
          only = λ i hi q f. never _ (from-here i q) (no-guard rows reads #N ready.choice.tree s (variable_of rows chosen i) e);
          exactly = rw e at (past-star l m);
        })

        some-guard : 0 < guard_of rows s → After rows reads chosen #N s r k (guard_of rows s) (from_of rows (guard_of rows s)) (length chosen)
        some-guard o = record {
          spot = record {
            star = let z = P.star in omega (arith, w.below);
            kind = λ _. kind;
            read = λ _. let z = stop in omega (arith, ready.few);
            index = omega arith;
          };
          old = λ i e. joins s r k i h (read_around (w.outward (variable_of rows chosen i) ∙ sym (opened (guard_of rows s) i o) ∙ e));
          less =
              let z = stop in
              omega (arith, w.below, ready.few, ahead-is s r k h, ahead-is (guard_of rows s) (from_of rows (guard_of rows s)) (length chosen) o);
          only = λ i hi e f. never _ (opened (guard_of rows s) i o ∙ sym (w.outward (variable_of rows chosen i)) ∙ from-here i e) f;
          exactly = past-star l m;
        }
          where
            w : Innermost rows reads #N ready.choice.tree s (guard_of rows s)
            w = the-guard rows reads #N ready.choice.tree s P.star o

            kind : kind_of rows (guard_of rows s) ≡ 1
            kind = ap (kind_of rows) w.next ∙ ready.guarded w.row (omega (arith, P.star, w.below, w.next)) w.kind

            stop : stop_of rows (guard_of rows s) ≤ length reads
            stop = ready.read (guard_of rows s) (omega (arith, P.star, w.below)) kind
