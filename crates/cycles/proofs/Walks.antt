-- How the path changes: a finger moves on or has run out, segments join, a new index is put on the path.
use Prim.Native.Nat.{ℕ, ◌+◌, ◌-◌, ◌<◌, ◌≤◌}
use native.Mathlib.Omega.{arith}
use mathlib.Core.Path.{◌≡◌, sym, subst, ap, ◌∙◌}
use mathlib.Core.Bool.{true, false, not}
use mathlib.Core.List.{List}
use lib.Dec.{eqb}
use lib.ListN.{length, get_or, set, length-set}
use lib.Seq.{get_or-set_same, get_or-set_other}
use borrow.Author.Tests.{eq-eqb, ne_eqb, lt-ltb, le-ltb}
use Rattle.paper.proofs.Bools.{both, and_left, and_right, not_so}
use Rattle.fingers.specs.Inside.Graph.{Graph, Next, free, outside, left_of}
use Rattle.cycles.specs.Inside.Path.{Trail, here, step, Walked, Merged}
use Rattle.paper.proofs.Tests.{by, by-eq, by-lt, never, at_set}
use Rattle.fingers.proofs.Left.{left-shorter}
use Rattle.cycles.proofs.Chains.{chains-join}

-- what `outside` says
outside-no : (mark : List ℕ) (b i : ℕ) → outside mark b i ≡ false → (get_or mark i 0 ≡ 1 → ⊥) → b + 2 ≤ get_or mark i 0
unfolding outside
outside-no mark b i e d =
    by-lt (get_or mark i 0) (b + 2)
    (λ h. never _ (both (not (eqb (get_or mark i 0) 1)) _ (ap not (ne_eqb (get_or mark i 0) 1 d)) (lt-ltb (get_or mark i 0) (b + 2) h)) e) (λ h. h)

pub outside-yes : (mark : List ℕ) (b i : ℕ) → outside mark b i ≡ true → (get_or mark i 0 ≡ 1 → ⊥) × (get_or mark i 0 < b + 2)
unfolding outside
outside-yes mark b i e = (
  λ q. never _ (and_left (not (eqb (get_or mark i 0) 1)) _ e) (ap not (eq-eqb (get_or mark i 0) 1 q)),
  by-lt (get_or mark i 0) (b + 2) (λ h. h) (λ h. never _ (and_right (not (eqb (get_or mark i 0) 1)) _ e) (le-ltb (get_or mark i 0) (b + 2) h)),
)

-- where the last segment starts
abbrev pub base : List ℕ → ℕ → ℕ
base bound top = get_or bound (top - 1) 0

module _ (g : Graph) (mark stack bound finger : List ℕ) (len top at : ℕ) (P : Walked g mark stack bound finger len top at) where
  pub under_top : (k : ℕ) → k < top → get_or bound k 0 ≤ base bound top
  under_top k h =
      by-eq k (top - 1) (λ e. omega (arith, ap (λ (z : ℕ). get_or bound z 0) e)) (λ d. let r = P.rising k (top - 1) (omega arith) (omega arith) in omega arith)

  module _ (h : 0 < top) (u : base bound top < at) where
    in_path : at - 1 < len
    in_path = omega (arith, P.upto)

    -- the index worked on
    abbrev j : ℕ
    j = get_or stack (at - 1) 0

    j-long : j < length finger
    j-long = let a = (P.on (at - 1) in_path).0 in omega (arith, P.small, P.fingers)

    only : (p : ℕ) → p < len → get_or stack p 0 ≡ j → p ≡ at - 1
    only p hp e = let a = (P.on p hp).1 in let b = (P.on (at - 1) in_path).1 in omega (arith, ap (λ (z : ℕ). get_or mark z 0) e)

    -- it leads to every index of the path
    pub leads-all : (p : ℕ) → p < len → Trail g j (get_or stack p 0)
    leads-all p hp = P.reach p (at - 1) hp in_path (λ k hk _. let z = under_top k hk in omega arith)

    -- what lies in its segment, or above it
    abbrev Above : ℕ → ℕ → Type 0
    Above p i = (2 ≤ get_or mark i 0) × ((k : ℕ) → k < top → get_or bound k 0 ≤ p → get_or bound k 0 + 2 ≤ get_or mark i 0)

    -- its finger moves on
    pub turn : (f l : ℕ) → Next g (outside mark (base bound top)) j (get_or finger j 0) f l → Walked g mark stack bound (set finger j f) len top at
    turn f l x = record {
      small = P.small;
      marks = P.marks;
      stacks = P.stacks;
      bounds = P.bounds;
      fingers = length-set finger j f ∙ P.fingers;
      on = P.on;
      off = P.off;
      room = P.room;
      some = P.some;
      first = P.first;
      low = P.low;
      rising = P.rising;
      tops = P.tops;
      reach = P.reach;
      within = λ i hi. at_set finger j f j-long (g.Finger i) i (λ q. subst (λ z. g.Finger z f) (sym q) x.good) (λ q. P.within i hi);
      fresh = λ i hi e. at_set finger j f j-long (λ z. (y : ℕ) → y < g.size → g.passed i z y ≡ true → g.before y i ≡ false) i
          (λ q. absurd (let b = (P.on (at - 1) in_path).1 in omega (arith, ap (λ (z : ℕ). get_or mark z 0) q))) (λ q. P.fresh i hi e);
      passed = λ p hp i hi. at_set finger j f j-long
          (λ z. g.passed (get_or stack p 0) z i ≡ true → g.before i (get_or stack p 0) ≡ true → (get_or mark i 0 ≡ 1 → ⊥) → Above p i) (get_or stack p 0)
          (λ q t r d. by (g.passed j (get_or finger j 0) i)
          (λ y. P.passed p hp i hi (subst (λ z. g.passed z (get_or finger z 0) i ≡ true) (sym q) y) r d)
          (λ y. above p i (not_so _ (λ o. never (g.before i j) (subst (λ z. g.before i z ≡ true) q r)
          (x.none i hi (subst (λ z. g.passed z f i ≡ true) q t) y o))) d))
          (λ q. P.passed p hp i hi);
      closed = P.closed;
      upto = P.upto;
      high = P.high;
      spent = λ p hp hl. at_set finger j f j-long (λ z. (i : ℕ) → i < g.size → g.passed (get_or stack p 0) z i ≡ true) (get_or stack p 0)
          (λ q. absurd (let e = only p hl q in omega (arith, e))) (λ q. P.spent p hp hl);
    }
      where
        above : (p i : ℕ) → outside mark (base bound top) i ≡ false → (get_or mark i 0 ≡ 1 → ⊥) → Above p i
        above p i e d = let o = outside-no mark (base bound top) i e d in (omega arith, λ k hk _. let z = under_top k hk in omega arith)

    -- its finger has run out
    pub back : ((i : ℕ) → i < g.size → g.passed j (get_or finger j 0) i ≡ true) → Walked g mark stack bound finger len top (at - 1)
    back e = record {
      small = P.small;
      marks = P.marks;
      stacks = P.stacks;
      bounds = P.bounds;
      fingers = P.fingers;
      on = P.on;
      off = P.off;
      room = P.room;
      some = P.some;
      first = P.first;
      low = P.low;
      rising = P.rising;
      tops = P.tops;
      reach = P.reach;
      within = P.within;
      fresh = P.fresh;
      passed = P.passed;
      closed = P.closed;
      upto = omega (arith, P.upto);
      high = λ k hk. let z = under_top k hk in omega arith;
      spent = λ p hp hl. by-eq p (at - 1)
          (λ q. subst (λ z. (i : ℕ) → i < g.size → g.passed (get_or stack z 0) (get_or finger (get_or stack z 0) 0) i ≡ true) (sym q) e)
          (λ q. P.spent p (omega arith) hl);
    }

    -- an index f of a lower segment is before it: the segments join
    pub merge : (f t : ℕ) → f < g.size → g.before f j ≡ true → 2 ≤ get_or mark f 0 → get_or mark f 0 < base bound top + 2
        → Merged bound top (get_or mark f 0 - 2) t
        → (t < top) × Walked g mark stack bound finger len t at
    merge f t hf r two under w = (
      fewer,
      record {
        small = P.small;
        marks = P.marks;
        stacks = P.stacks;
        bounds = P.bounds;
        fingers = P.fingers;
        on = P.on;
        off = P.off;
        room = P.room;
        some = λ _. w.above;
        first = P.first;
        low = λ k hk. P.low k (omega (arith, w.below));
        rising = λ k l hk hl. P.rising k l hk (omega (arith, w.below));
        tops = omega (arith, w.below, P.tops);
        reach = λ p q hp hq ab. by-lt p (get_or bound t 0)
            (λ l. P.reach p q hp hq (λ k hk bk. by-lt k t (λ kt. ab k kt bk) (λ tk. absurd (above-t p l k hk tk bk))))
            (λ l. chains-join g (P.reach (get_or mark f 0 - 2) q there.0 hq (λ k hk bk. by-lt k t
            (λ kt. ab k kt (let z = P.rising k t kt fewer in omega arith))
            (λ tk. absurd (let z = w.gone k hk tk in omega arith))))
            (subst (λ z. Trail g z (get_or stack p 0)) (sym there.1) (step hf r (leads-all p hp))));
        within = P.within;
        fresh = P.fresh;
        passed = λ p hp i hi t e d. let z = P.passed p hp i hi t e d in (z.0, λ k hk. z.1 k (omega (arith, w.below)));
        closed = P.closed;
        upto = P.upto;
        high = λ k hk. P.high k (omega (arith, w.below));
        spent = P.spent;
      },
    )
      where
        there : (get_or mark f 0 - 2 < len) × (get_or stack (get_or mark f 0 - 2) 0 ≡ f)
        there = P.off f hf (get_or mark f 0 - 2) (omega arith)

        fewer : t < top
        fewer = by-eq t top (λ e. absurd (let z = w.holds in omega (arith, ap (λ (z : ℕ). get_or bound (z - 1) 0) e))) (λ d. let z = w.below in omega arith)

        above-t : (p : ℕ) → p < get_or bound t 0 → (k : ℕ) → k < top → t ≤ k → get_or bound k 0 ≤ p → ⊥
        above-t p l k hk tk bk =
            by-eq t k (λ e. omega (arith, ap (λ (z : ℕ). get_or bound z 0) e)) (λ d. let z = P.rising t k (omega arith) hk in omega arith)

  -- a new index is put on the path, a segment of its own
  module _ (f : ℕ) (hf : f < g.size) (new : get_or mark f 0 ≡ 0) (down : (p : ℕ) → p < len → Trail g f (get_or stack p 0)) where
    abbrev mark' : List ℕ
    mark' = set mark f (len + 2)

    abbrev stack' : List ℕ
    stack' = set stack len f

    abbrev bound' : List ℕ
    bound' = set bound top len

    f-long : f < length mark
    f-long = omega (arith, P.small, P.marks)

    pub fewer-new : length (left_of g.size mark') < length (left_of g.size mark)
    unfolding free
    fewer-new = left-shorter (len + 2) (λ e. omega arith) f mark f-long g.size hf (eq-eqb (get_or mark f 0) 0 new)

    pub len-in : len < g.size
    len-in = let z = fewer-new in omega (arith, P.room)

    s-long : len < length stack
    s-long = let z = len-in in omega (arith, P.stacks, P.small)

    b-long : top < length bound
    b-long = let z = len-in in omega (arith, P.bounds, P.small, P.tops)

    other : (p : ℕ) → p < len → get_or stack p 0 ≡ f → ⊥
    other p hp e = let a = (P.on p hp).1 in omega (arith, ap (λ (z : ℕ). get_or mark z 0) e)

    old-bound : (k : ℕ) → k < top → get_or bound' k 0 ≡ get_or bound k 0
    old-bound k hk = get_or-set_other bound top k len 0 (λ e. omega arith)

    new-bound : get_or bound' top 0 ≡ len
    new-bound = get_or-set_same bound top len 0 b-long

    pub push : Walked g mark' stack' bound' finger (len + 1) (top + 1) (len + 1)
    push = record {
      small = P.small;
      marks = length-set mark f (len + 2) ∙ P.marks;
      stacks = length-set stack len f ∙ P.stacks;
      bounds = length-set bound top len ∙ P.bounds;
      fingers = P.fingers;
      on = λ p hp. at_set stack len f s-long (λ z. (z < g.size) × (get_or mark' z 0 ≡ p + 2)) p
          (λ q. (hf, get_or-set_same mark f (len + 2) 0 f-long ∙ ap (λ z. z + 2) (sym q)))
          (λ q. let hp' : p < len = omega arith in let o = P.on p hp' in (o.0, get_or-set_other mark f (get_or stack p 0) (len + 2) 0 (other p hp') ∙ o.1));
      off = λ i hi p. at_set mark f (len + 2) f-long (λ z. z ≡ p + 2 → (p < len + 1) × (get_or stack' p 0 ≡ i)) i
          (λ q e. let pe : p ≡ len = omega arith in (omega arith, ap (λ z. get_or stack' z 0) pe ∙ get_or-set_same stack len f 0 s-long ∙ sym q))
          (λ q e. let o = P.off i hi p e in (omega (arith, o.0), get_or-set_other stack len p f 0 (λ pe. omega (arith, o.0)) ∙ o.1));
      room = let z = fewer-new in omega (arith, P.room);
      some = λ _. omega arith;
      first = at_set bound top len b-long (λ z. z ≡ 0) 0 (λ q. by-lt 0 len (λ l. absurd (let z = P.some l in omega arith)) (λ l. omega arith)) (λ q. P.first);
      low = λ k hk. at_set bound top len b-long (λ z. z < len + 1) k (λ q. omega arith) (λ q. let z = P.low k (omega arith) in omega arith);
      rising = λ k l hk hl. at_set bound top len b-long (λ z. get_or bound' k 0 < z) l
          (λ q. let z = P.low k (omega arith) in omega (arith, old-bound k (omega arith)))
          (λ q. let z = P.rising k l hk (omega arith) in omega (arith, old-bound k (omega arith)));
      tops = omega (arith, P.tops);
      reach = λ p r hp hr ab. at_set stack len f s-long (λ z. Trail g z (get_or stack' p 0)) r
          (λ q. at_set stack len f s-long (λ y. Trail g f y) p (λ _. here) (λ e. down p (omega arith)))
          (λ q. at_set stack len f s-long (λ y. Trail g (get_or stack r 0) y) p
          (λ e. absurd (let z = ab top (omega arith) (subst (λ y. y ≤ p) (sym new-bound) (omega arith)) in omega (arith, new-bound)))
          (λ e. P.reach p r (omega arith) (omega arith) (λ k hk bk. subst (λ y. y ≤ r) (old-bound k hk) (ab k (omega arith)
          (subst (λ y. y ≤ p) (sym (old-bound k hk)) bk)))));
      within = P.within;
      fresh = λ i hi. at_set mark f (len + 2) f-long (λ z. z ≡ 0 → (y : ℕ) → y < g.size → g.passed i (get_or finger i 0) y ≡ true → g.before y i ≡ false) i
          (λ q e. absurd (omega arith)) (λ q e. P.fresh i hi e);
      passed = λ p hp. at_set stack len f s-long
          (λ z. (i : ℕ) → i < g.size → g.passed z (get_or finger z 0) i ≡ true → g.before i z ≡ true → (get_or mark' i 0 ≡ 1 → ⊥)
          → Beyond p (get_or mark' i 0)) p
          (λ q i hi t e. never (g.before i f) e (P.fresh f hf new i hi t))
          (λ q i hi t e. at_set mark f (len + 2) f-long (λ z. (z ≡ 1 → ⊥) → Beyond p z) i
          (λ same _. absurd (let m : get_or mark i 0 ≡ 0 = ap (λ z. get_or mark z 0) same ∙ new in
          let z = (P.passed p (omega arith) i hi t e (λ one. omega arith)).0 in omega arith))
          (λ differ d. let o = P.passed p (omega arith) i hi t e d in
          (o.0, λ k hk. at_set bound top len b-long (λ y. y ≤ p → y + 2 ≤ get_or mark i 0) k (λ kt l. absurd (omega arith)) (λ kt. o.1 k (omega arith)))));
      closed = λ i hi. at_set mark f (len + 2) f-long (λ z. z ≡ 1 → (x : ℕ) → x < g.size → g.before x i ≡ true → get_or mark' x 0 ≡ 1) i
          (λ q e. absurd (omega arith))
          (λ q e x hx r. let c = P.closed i hi e x hx r in
          at_set mark f (len + 2) f-long (λ z. z ≡ 1) x (λ s. absurd (omega (arith, ap (λ (z : ℕ). get_or mark z 0) s))) (λ s. c));
      upto = omega arith;
      high = λ k hk. at_set bound top len b-long (λ z. z ≤ len + 1) k (λ q. omega arith) (λ q. let z = P.low k (omega arith) in omega arith);
      spent = λ p hp hl. absurd (omega arith);
    }
      where
        Beyond : ℕ → ℕ → Type 0
        Beyond p m = (2 ≤ m) × ((k : ℕ) → k < top + 1 → get_or bound' k 0 ≤ p → get_or bound' k 0 + 2 ≤ m)
