-- How the state of the placing changes: an index is visited and found placed, waiting, blocked or ready.
use Prim.Native.Nat.{ℕ, ◌+◌, ◌<◌, ◌≤◌}
use native.Mathlib.Omega.{arith}
use mathlib.Core.Path.{◌≡◌, refl, sym, subst, ◌∙◌}
use mathlib.Core.Bool.{Bool, true, false, ◌&&◌}
use mathlib.Core.List.{List}
use lib.Dec.{ltb}
use lib.ListN.{length, get_or, set, length-set}
use lib.Seq.{get_or-set_same, get_or-set_other}
use borrow.Author.Count.{below_more}
use borrow.Author.Tests.{ltb-true}
use Rattle.paper.proofs.Bools.{and_left, and_right}
use Rattle.fingers.specs.Inside.Graph.{Graph, Next, free, outside}
use Rattle.ordering.specs.Inside.Placing.{Blocked, State, Lowered, Visited}
use Rattle.paper.proofs.Tests.{by, never, at_set}
use Rattle.fingers.proofs.Seeking.{outside-free, next-alike}

module _ (g : Graph) (k : ℕ) (placed finger wait low : List ℕ) (s : State g k placed finger wait low) where
  -- one index more is blocked or placed
  one_more : (free placed k ≡ true → Blocked g placed low k (get_or wait k 0)) → State g (k + 1) placed finger wait low
  one_more b = record {
    small = s.small;
    places = s.places;
    fingers = s.fingers;
    waits = s.waits;
    lows = s.lows;
    within = s.within;
    clear = s.clear;
    awaits = s.awaits;
    blocked = below_more _ _ s.blocked b;
  }

  -- low falls
  still : (low' : List ℕ) → ((i : ℕ) → get_or low' i 0 ≤ get_or low i 0) → {j f : ℕ} → Blocked g placed low j f → Blocked g placed low' j f
  still low' all {j} {f} b = record { inside = b.inside; waiting = b.waiting; because = b.because; seen = omega (arith, all f, b.seen) }

  -- the finger of k moves on, and k waits for l, of which low knows
  moved : k < g.size → (f l : ℕ) → Next g (free placed) k (get_or finger k 0) f l → (low' : List ℕ) → length low' ≡ length low
      → ((i : ℕ) → get_or low' i 0 ≤ get_or low i 0) → (l < g.size → get_or low' l 0 ≤ k) → State g k placed (set finger k f) (set wait k l) low'
  moved h f l x low' size all seen = record {
    small = s.small;
    places = s.places;
    fingers = length-set finger k f ∙ s.fingers;
    waits = length-set wait k l ∙ s.waits;
    lows = size ∙ s.lows;
    within = λ j hj. at_set finger k f in-finger (g.Finger j) j (λ q. subst (λ z. g.Finger z f) (sym q) x.good) (λ q. s.within j hj);
    clear = λ j hj. at_set finger k f in-finger (λ p. (i : ℕ) → i < g.size → g.passed j p i ≡ true → free placed i ≡ true → g.before i j ≡ false) j
        (λ q i hi t e. subst (λ z. g.before i z ≡ false) (sym q) (by (g.passed k (get_or finger k 0) i)
        (λ u. s.clear k h i hi u e) (λ u. x.none i hi (subst (λ z. g.passed z f i ≡ true) q t) u e)))
        (λ q. s.clear j hj);
    awaits = λ j hj. at_set wait k l in-wait (λ z. z < g.size → free placed z ≡ true → Blocked g placed low' j z) j
        (λ q hl e. subst (λ z. Blocked g placed low' z l) (sym q) (record { inside = hl; waiting = e; because = (x.hit hl).1; seen = seen hl }))
        (λ q hl e. still low' all (s.awaits j hj hl e));
    blocked = λ j hj e. subst (Blocked g placed low' j) (sym (get_or-set_other wait k j l 0 (λ q. omega arith))) (still low' all (s.blocked j hj e));
  }
    where
      in-finger : k < length finger
      in-finger = omega (arith, s.small, s.fingers)

      in-wait : k < length wait
      in-wait = omega (arith, s.small, s.waits)

  -- where no path is, a search finds what is not placed
  next-unplaced : (f l : ℕ) → Next g (outside placed 0) k (get_or finger k 0) f l → Next g (free placed) k (get_or finger k 0) f l
  next-unplaced f l x = next-alike g (outside placed 0) (free placed) k (get_or finger k 0) f l (outside-free placed) x

  -- the ends of a visit
  module _ (h : k < g.size) (r : Bool) where
    pub visit-placed : r ≡ false → free placed k ≡ false → Visited g k placed finger wait low r
    visit-placed e p = record { state = s; passed = λ _. one_more (λ q. never _ q p); ready = λ q. never _ q e }

    pub visit-waiting : r ≡ false → (w : ℕ) → w ≡ get_or wait k 0 → (ltb w g.size && free placed w) ≡ true → Visited g k placed finger wait low r
    visit-waiting e w here q = record { state = s; passed = λ _. one_more (λ _. s.awaits k h below (rw here at unplaced)); ready = λ q. never _ q e }
      where
        below : get_or wait k 0 < g.size
        below = rw here at (ltb-true w g.size (and_left (ltb w g.size) _ q))

        unplaced : free placed w ≡ true
        unplaced = and_right (ltb w g.size) _ q

    pub visit-ready : r ≡ true → free placed k ≡ true → (f l : ℕ) → Next g (outside placed 0) k (get_or finger k 0) f l → g.size ≤ l
        → Visited g k placed (set finger k f) (set wait k l) low r
    visit-ready e p f l x out = record {
      state = moved h f l (next-unplaced f l x) low refl (λ i. omega arith) (λ hl. absurd (omega arith));
      passed = λ q. never _ e q;
      ready = λ _.
          let now = get_or-set_same finger k f 0 (omega (arith, s.small, s.fingers)) in
          (p, subst (λ z. (i : ℕ) → i < g.size → g.passed k z i ≡ true) (sym now) (x.out out));
    }

    pub visit-blocked : r ≡ false → (f l : ℕ) → Next g (outside placed 0) k (get_or finger k 0) f l → l < g.size → (low' : List ℕ) → Lowered low l k low'
        → Visited g k placed (set finger k f) (set wait k l) low' r
    visit-blocked e f l x hl low' w = record {
      state = s';
      passed = λ _. more (λ _. s'.awaits k h (subst (λ z. z < g.size) (sym now) hl) (subst (λ z. free placed z ≡ true) (sym now) waits));
      ready = λ q. never _ q e;
    }
      where
        waits : free placed l ≡ true
        waits = ((next-unplaced f l x).hit hl).0

        s' : State g k placed (set finger k f) (set wait k l) low'
        s' = moved h f l (next-unplaced f l x) low' w.size w.all (λ _. w.there)

        now : get_or (set wait k l) k 0 ≡ l
        now = get_or-set_same wait k l 0 (omega (arith, s.small, s.waits))

        more : (free placed k ≡ true → Blocked g placed low' k (get_or (set wait k l) k 0)) → State g (k + 1) placed (set finger k f) (set wait k l) low'
        more b = record {
          small = s'.small;
          places = s'.places;
          fingers = s'.fingers;
          waits = s'.waits;
          lows = s'.lows;
          within = s'.within;
          clear = s'.clear;
          awaits = s'.awaits;
          blocked = below_more _ _ s'.blocked b;
        }
