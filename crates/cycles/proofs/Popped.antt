-- The last segment is done: its indices lead to one another and nothing else that is not done leads to them, so they are on
-- a cycle if they are two or more, and a single one only if it is before itself.
use Prim.Native.Nat.{ℕ, zero, suc, ◌+◌, ◌-◌, ◌<◌, ◌≤◌}
use native.Mathlib.Omega.{arith}
use mathlib.Core.Path.{◌≡◌, sym, subst, ap, ◌∙◌}
use mathlib.Core.Bool.{true}
use mathlib.Core.List.{List}
use lib.Dec.{eqb}
use lib.ListN.{length, get_or}
use borrow.Author.Tests.{ne_eqb}
use Rattle.paper.proofs.UpTo.{of-up_to}
use Rattle.paper.proofs.Lists.{those-same}
use Rattle.paper.specs.Lists.{up_to}
use Rattle.fingers.specs.Inside.Graph.{Graph, free, left_of}
use Rattle.cycles.specs.Inside.Path.{is_cyclic, Trail, here, step, Walked, Best, Grown, Finished, Counted}
use Rattle.paper.proofs.Tests.{by-eq, by-lt}
use Rattle.cycles.proofs.Chains.{cyclic-of, of-cyclic}
use Rattle.cycles.proofs.Walks.{base, under_top}

module _ (g : Graph) (mark stack bound finger : List ℕ) (len top at : ℕ) (P : Walked g mark stack bound finger len top at)
    (h : 0 < top) (ran : at ≡ base bound top) (mark' : List ℕ) (w : Finished mark stack (base bound top) len mark') where
  b-in : base bound top < len
  b-in = P.low (top - 1) (omega arith)

  -- the marks below the segment stay, those of the segment are 1
  low-mark : (i : ℕ) → i < g.size → get_or mark i 0 < base bound top + 2 → get_or mark' i 0 ≡ get_or mark i 0
  low-mark i hi l = w.miss i (λ p hp u e. let z = (P.on p hp).1 in omega (arith, ap (λ (z : ℕ). get_or mark z 0) e))

  spot : (i : ℕ) → i < g.size → base bound top + 2 ≤ get_or mark i 0 → (p : ℕ) × (p < len) × (base bound top ≤ p) × (get_or stack p 0 ≡ i)
  spot i hi l = let o = P.off i hi (get_or mark i 0 - 2) (omega arith) in (get_or mark i 0 - 2, o.0, omega arith, o.1)

  high-mark : (i : ℕ) → i < g.size → base bound top + 2 ≤ get_or mark i 0 → get_or mark' i 0 ≡ 1
  high-mark i hi l = let s = spot i hi l in subst (λ z. get_or mark' z 0 ≡ 1) s.3 (w.hit s.0 s.1 s.2)

  -- what is done stays done; what is not done now was below
  still : (i : ℕ) → i < g.size → get_or mark i 0 ≡ 1 → get_or mark' i 0 ≡ 1
  still i hi e = low-mark i hi (omega arith) ∙ e

  kept : (i : ℕ) → i < g.size → (get_or mark' i 0 ≡ 1 → ⊥) → get_or mark' i 0 ≡ get_or mark i 0
  kept i hi d = by-lt (get_or mark i 0) (base bound top + 2) (λ l. low-mark i hi l) (λ l. absurd (d (high-mark i hi l)))

  was : (i : ℕ) → i < g.size → get_or mark' i 0 ≡ 1 → (get_or mark i 0 ≡ 1 → ⊥) → base bound top + 2 ≤ get_or mark i 0
  was i hi e d = by-lt (get_or mark i 0) (base bound top + 2) (λ l. absurd (d (sym (low-mark i hi l) ∙ e))) (λ l. l)

  frees : (i : ℕ) → i < g.size → free mark' i ≡ free mark i
  unfolding free
  frees i hi =
      by-lt (get_or mark i 0) (base bound top + 2) (λ l. ap (λ z. eqb z 0) (low-mark i hi l))
      (λ l. ne_eqb (get_or mark' i 0) 0 (λ e. let z = high-mark i hi l in omega arith) ∙ sym (ne_eqb (get_or mark i 0) 0 (λ e. omega arith)))

  pub same_left : left_of g.size mark' ≡ left_of g.size mark
  unfolding left_of
  same_left = those-same (free mark') (free mark) (up_to g.size) (λ i t. frees i (of-up_to g.size i t))

  pub grown : Grown g mark mark'
  grown i hi e = sym (frees i hi) ∙ e

  -- what is before an index of the segment is done, or in it
  inward : (j : ℕ) → j < g.size → base bound top + 2 ≤ get_or mark j 0 → (i : ℕ) → i < g.size → g.before i j ≡ true → (get_or mark i 0 ≡ 1 → ⊥)
      → base bound top + 2 ≤ get_or mark i 0
  inward j hj l i hi r d =
      let s = spot j hj l in
      let f = P.spent s.0 (omega (arith, s.2)) s.1 in
      (P.passed s.0 s.1 i hi (f i hi) (subst (λ z. g.before i z ≡ true) (sym s.3) r) d).1 (top - 1) (omega arith) s.2

  pub pop : Walked g mark' stack bound finger (base bound top) (top - 1) (base bound top)
  pop = record {
    small = P.small;
    marks = w.size ∙ P.marks;
    stacks = P.stacks;
    bounds = P.bounds;
    fingers = P.fingers;
    on = λ p hp. let o = P.on p (let z = b-in in omega arith) in (o.0, low-mark (get_or stack p 0) o.0 (omega (arith, o.1)) ∙ o.1);
    off = λ i hi p e.
        let k = kept i hi (λ one. omega arith) in
        let o = P.off i hi p (sym k ∙ e) in
        (by-lt p (base bound top) (λ l. l) (λ l. absurd (let z = high-mark i hi (omega arith) in omega arith)), o.1);
    room = subst (λ l. base bound top + length l ≤ g.size) (sym same_left) (let z = b-in in omega (arith, P.room));
    some = λ l. by-lt 0 (top - 1) (λ q. q) (λ q. absurd (let t : top - 1 ≡ 0 = omega arith in omega (arith, P.first, ap (λ (z : ℕ). get_or bound z 0) t)));
    first = P.first;
    low = λ k hk. P.rising k (top - 1) hk (omega arith);
    rising = λ k l hk hl. P.rising k l hk (omega arith);
    tops = under_all (top - 1) (omega arith);
    reach = λ p r hp hr ab. P.reach p r (let z = b-in in omega arith) (let z = b-in in omega arith)
        (λ k hk bk. by-eq k (top - 1) (λ e. absurd (omega (arith, ap (λ (z : ℕ). get_or bound z 0) e))) (λ d. ab k (omega arith) bk));
    within = P.within;
    fresh = λ i hi e. P.fresh i hi (sym (kept i hi (λ one. omega arith)) ∙ e);
    passed = λ p hp i hi t e d.
        let k = kept i hi d in
        let o = P.passed p (let z = b-in in omega arith) i hi t e (λ one. d (still i hi one)) in
        (omega (arith, o.0, k), λ x hx bx. omega (arith, o.1 x (omega arith) bx, k));
    closed = λ i hi e x hx r. by-eq (get_or mark x 0) 1 (still x hx)
        (λ d. by-eq (get_or mark i 0) 1 (λ one. absurd (d (P.closed i hi one x hx r))) (λ c. high-mark x hx (inward i hi (was i hi e c) x hx r d)));
    upto = omega arith;
    high = λ k hk. let z = P.rising k (top - 1) hk (omega arith) in omega arith;
    spent = λ p hp hl. absurd (omega arith);
  }
    where
      -- k segments have k indices at least
      under_all : (k : ℕ) → k < top → k ≤ get_or bound k 0
      under_all zero hk = omega arith
      under_all (suc k) hk = let z = under_all k (omega arith) in let r = P.rising k (suc k) (omega arith) hk in omega arith

  -- what leads to an index that is done is done
  done-back : {i x : ℕ} → Trail g i x → x < g.size → get_or mark x 0 ≡ 1 → (i < g.size) × (get_or mark i 0 ≡ 1)
  done-back here hx e = (hx, e)
  done-back (step hi r s) hx e = let k = done-back s hx e in (hi, P.closed _ k.0 k.1 _ hi r)

  -- two indices of the segment differ where their positions do
  apart : (p q : ℕ) → p < len → q < len → (p ≡ q → ⊥) → get_or stack p 0 ≡ get_or stack q 0 → ⊥
  apart p q hp hq d e = let a = (P.on p hp).1 in let b = (P.on q hq).1 in d (omega (arith, ap (λ (z : ℕ). get_or mark z 0) e))

  cyclic-with : (p q : ℕ) → p < len → base bound top ≤ p → q < len → base bound top ≤ q → (p ≡ q → ⊥) → is_cyclic g (get_or stack p 0) ≡ true
  cyclic-with p q hp lp hq lq d =
      cyclic-of g (get_or stack p 0) (get_or stack q 0) (P.on q hq).0 (apart p q hp hq d) (across q p hq hp lp) (across p q hp hq lq)
    where
      across : (p q : ℕ) → p < len → q < len → base bound top ≤ q → Trail g (get_or stack q 0) (get_or stack p 0)
      across p q hp hq lq = P.reach p q hp hq (λ k hk _. let u = under_top g mark stack bound finger len top at P k hk in omega arith)

  cyclic-at : base bound top + 1 < len → (p : ℕ) → p < len → base bound top ≤ p → is_cyclic g (get_or stack p 0) ≡ true
  cyclic-at m p hp lp =
      by-eq p (base bound top) (λ e. cyclic-with p (base bound top + 1) hp lp m (omega arith) (λ q. omega arith))
      (λ d. cyclic-with p (base bound top) hp lp b-in (omega arith) d)

  -- a single index of a segment is on a cycle only if it is before itself
  alone : (best : ℕ) → Best g mark best → len ≤ base bound top + 1 → (i : ℕ) → i < g.size → base bound top + 2 ≤ get_or mark i 0 → (get_or mark i 0 ≡ 1 → ⊥)
      → is_cyclic g i ≡ true → best ≤ i
  alone best B m i hi l d y =
      let (x, hx, s, r) = of-cyclic g i hi y in
      by-eq (get_or mark x 0) 1
      (λ one. absurd (d (done-back s hx one).1))
      (λ e.
      let a = spot i hi l in
      let b = spot x hx (inward i hi l x hx r e) in
      let pq : a.0 ≡ b.0 = omega (arith, a.1, a.2, b.1, b.2) in
      let same : x ≡ i = sym b.3 ∙ ap (λ z. get_or stack z 0) (sym pq) ∙ a.3 in
      B.self i hi (subst (λ z. g.before z i ≡ true) same r))

  pub best-after : (best r : ℕ) → Best g mark best → Counted stack (base bound top) len best r → Best g mark' r
  best-after best r B c = by-lt (base bound top + 1) len many single
    where
      many : base bound top + 1 < len → Best g mark' r
      many m = let s = c.many m in record {
        to = omega (arith, s.not_above, B.to);
        cyclic = λ l. by-eq r best
            (λ e. subst (λ z. is_cyclic g z ≡ true) (sym e) (B.cyclic (omega arith)))
            (λ d. let o = s.one d in subst (λ z. is_cyclic g z ≡ true) (sym o.3) (cyclic-at m o.0 o.1 o.2));
        self = λ i hi e. omega (arith, s.not_above, B.self i hi e);
        least = λ i hi e y. by-eq (get_or mark i 0) 1
            (λ one. omega (arith, s.not_above, B.least i hi one y))
            (λ d. let o = spot i hi (was i hi e d) in omega (arith, s.all o.0 o.1 o.2, o.3));
      }

      single : len ≤ base bound top + 1 → Best g mark' r
      single m = subst (Best g mark') (sym (c.single m)) (record {
        to = B.to;
        cyclic = B.cyclic;
        self = B.self;
        least = λ i hi e y. by-eq (get_or mark i 0) 1 (λ one. B.least i hi one y) (λ d. alone best B m i hi (was i hi e d) d y);
      })
