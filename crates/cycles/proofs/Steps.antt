-- What a step of the walk asks, and its four ends; the walk from a new root, and what best is when all is done.
use Prim.Native.Nat.{ℕ, ◌+◌, ◌-◌, ◌<◌, ◌≤◌}
use native.Mathlib.Omega.{arith}
use mathlib.Core.Path.{◌≡◌, refl, sym, subst, ap, ◌∙◌}
use mathlib.Core.Bool.{true, false}
use mathlib.Core.List.{List}
use lib.Dec.{eqb}
use lib.ListN.{length, get_or, set, replicate, length-replicate, get_or-replicate}
use lib.Seq.{get_or-set_same}
use borrow.Author.Tests.{ne_eqb, eqb-false}
use Rattle.paper.specs.Limits.{slots}
use Rattle.paper.proofs.Bools.{not_so}
use Rattle.entries.specs.First.{first}
use Rattle.entries.proofs.First.{first_found, first-none, first-le, first-at, first_below}
use Rattle.fingers.specs.Inside.Graph.{Graph, Next, free, outside, left_of, Started}
use Rattle.cycles.specs.Inside.Path.{is_cyclic, Trail, step, Walked, Best, weight, Grown, Finished, Counted, Merged, Stepped, Explored, Selfless}
use Rattle.paper.proofs.Tests.{by-eq, by-lt, never, at_set}
use Rattle.fingers.proofs.Left.{was_free, left-few}
use Rattle.cycles.proofs.Chains.{cyclic-self}
use Rattle.cycles.proofs.Walks.{base, outside-yes, turn, back, merge, push, leads-all, fewer-new, len-in}
use Rattle.cycles.proofs.Popped.{pop, best-after, grown, same_left}

best-same : (g : Graph) (mark mark' : List ℕ) (best : ℕ) → ((i : ℕ) → get_or mark' i 0 ≡ 1 → get_or mark i 0 ≡ 1) → Best g mark best → Best g mark' best
best-same g mark mark' best e B = record { to = B.to; cyclic = B.cyclic; self = B.self; least = λ i hi one y. B.least i hi (e i one) y }

-- a mark of 2 or more marks none as done
not_done : (mark : List ℕ) (f a : ℕ) → f < length mark → (a ≡ 1 → ⊥) → (i : ℕ) → get_or (set mark f a) i 0 ≡ 1 → get_or mark i 0 ≡ 1
not_done mark f a long d i = at_set mark f a long (λ z. z ≡ 1 → get_or mark i 0 ≡ 1) i (λ q e. absurd (d e)) (λ q e. e)

two_up : (a : ℕ) → (a ≡ 0 → ⊥) → (a ≡ 1 → ⊥) → 2 ≤ a
two_up a p q = omega arith

module _ (g : Graph) (mark stack bound finger : List ℕ) (len top at : ℕ) (P : Walked g mark stack bound finger len top at) (h : 0 < top) where
  -- what a step asks on its way
  pub ahead_of : (at ≡ base bound top → ⊥) → base bound top < at
  ahead_of d = let z = P.high (top - 1) (omega arith) in omega arith

  pub bound-in : (base bound top < len) × (len ≤ g.size)
  bound-in = (P.low (top - 1) (omega arith), omega (arith, P.room))

  pub index_in : base bound top < at → get_or stack (at - 1) 0 < g.size
  index_in u = (P.on (at - 1) (omega (arith, P.upto))).0

  pub two-or-more : (f : ℕ) → outside mark (base bound top) f ≡ true → (get_or mark f 0 ≡ 0 → ⊥) → 2 ≤ get_or mark f 0
  two-or-more f e d = two_up (get_or mark f 0) d (outside-yes mark (base bound top) f e).0

  -- the four ends of a step
  module _ (best : ℕ) (B : Best g mark best) where
    pub step-pop : at ≡ base bound top → (mark' : List ℕ) (r : ℕ) → Finished mark stack (base bound top) len mark' → Counted stack (base bound top) len best r
        → Stepped g mark mark' stack bound finger top at (base bound top) (top - 1) (base bound top) r
    unfolding weight
    step-pop ran mark' r w c = record {
      path = pop g mark stack bound finger len top at P h ran mark' w;
      best_so_far = best-after g mark stack bound finger len top at P h ran mark' w best r B c;
      grown = grown g mark stack bound finger len top at P h ran mark' w;
      less = omega (arith, ap length (same_left g mark stack bound finger len top at P h ran mark' w));
    }

    module _ (u : base bound top < at) (f l : ℕ)
        (x : Next g (outside mark (base bound top)) (get_or stack (at - 1) 0) (get_or finger (get_or stack (at - 1) 0) 0) f l) where
      abbrev finger' : List ℕ
      finger' = set finger (get_or stack (at - 1) 0) f

      turned : Walked g mark stack bound finger' len top at
      turned = turn g mark stack bound finger len top at P h u f l x

      -- the new index leads to all of the path
      down : l < g.size → (p : ℕ) → p < len → Trail g l (get_or stack p 0)
      down hl p hp = step hl (x.hit hl).1 (leads-all g mark stack bound finger len top at P h u p hp)

      pub step_back : g.size ≤ l → Stepped g mark mark stack bound finger' top at len top (at - 1) best
      unfolding weight
      step_back e = record {
        path = back g mark stack bound finger' len top at turned h u
            (subst (λ z. (i : ℕ) → i < g.size → g.passed (get_or stack (at - 1) 0) z i ≡ true)
            (sym (get_or-set_same finger (get_or stack (at - 1) 0) f 0 (let z = index_in u in omega (arith, P.small, P.fingers)))) (x.out e));
        best_so_far = B;
        grown = λ i hi e. e;
        less = omega arith;
      }

      pub push-room : l < g.size → get_or mark l 0 ≡ 0 → (len < g.size) × (top < g.size)
      push-room hl new = let z = len-in g mark stack bound finger len top at P l hl new (down hl) in (z, omega (arith, P.tops))

      pub step_push : l < g.size → get_or mark l 0 ≡ 0
          → Stepped g mark (set mark l (len + 2)) (set stack len l) (set bound top len) finger' top at (len + 1) (top + 1) (len + 1) best
      unfolding weight
      step_push hl new = record {
        path = push g mark stack bound finger' len top at turned l hl new (down hl);
        best_so_far = best-same g mark (set mark l (len + 2)) best (not_done mark l (len + 2) long (λ e. omega arith)) B;
        grown = λ i hi e. was_free (len + 2) (λ z. omega arith) l mark long i e;
        less =
            let z = fewer-new g mark stack bound finger' len top at turned l hl new (down hl) in
            let m = push-room hl new in
            let s = P.small in
            omega arith;
      }
        where
          long : l < length mark
          long = omega (arith, P.small, P.marks)

      pub step-merge : l < g.size → (get_or mark l 0 ≡ 0 → ⊥) → (t : ℕ) → Merged bound top (get_or mark l 0 - 2) t
          → Stepped g mark mark stack bound finger' top at len t at best
      unfolding weight
      step-merge hl old t w =
          let o = outside-yes mark (base bound top) l (x.hit hl).0 in
          let y = merge g mark stack bound finger' len top at turned h u l t hl (x.hit hl).1 (two_up (get_or mark l 0) old o.0) o.1 w in
          record { path = y.1; best_so_far = B; grown = λ i hi e. e; less = omega (arith, y.0) }

-- an empty path
empty : (g : Graph) (mark stack bound finger : List ℕ) (len top at : ℕ) → Walked g mark stack bound finger len top at → len ≤ 0
    → Walked g mark stack bound finger 0 0 0
empty g mark stack bound finger len top at P h =
    subst (λ z. Walked g mark stack bound finger z 0 0) no-len
    (subst (λ z. Walked g mark stack bound finger len z 0) no_top (subst (λ z. Walked g mark stack bound finger len top z) no-at P))
  where
    no-len : len ≡ 0
    no-len = omega arith

    no_top : top ≡ 0
    no_top = omega (arith, P.tops)

    no-at : at ≡ 0
    no-at = omega (arith, P.upto)

pub empty-first : (g : Graph) (finger : List ℕ) → g.size < slots → Started g finger
    → Walked g (replicate slots 0) (replicate slots 0) (replicate slots 0) finger 0 0 0
empty-first g finger h s = record {
  small = h;
  marks = length-replicate {A = ℕ} slots 0;
  stacks = length-replicate {A = ℕ} slots 0;
  bounds = length-replicate {A = ℕ} slots 0;
  fingers = s.size;
  on = λ p hp. absurd (omega arith);
  off = λ i hi p e. absurd (omega (arith, get_or-replicate {A = ℕ} slots i 0 0 (omega arith)));
  room = few;
  some = λ l. l;
  first = refl;
  low = λ k hk. absurd (omega arith);
  rising = λ k l hk hl. absurd (omega arith);
  tops = omega arith;
  reach = λ p r hp hr ab. absurd (omega arith);
  within = s.within;
  fresh = λ j hj e. s.clear j hj;
  passed = λ p hp i hi t e d. absurd (omega arith);
  closed = λ j hj e i hi r. absurd (omega (arith, get_or-replicate {A = ℕ} slots j 0 0 (omega arith)));
  upto = omega arith;
  high = λ k hk. absurd (omega arith);
  spent = λ p hp hl. absurd (omega arith);
}
  where
    few : 0 + length (left_of g.size (replicate slots 0)) ≤ g.size
    few = left-few g.size (replicate slots 0)

-- the walk from a new root begins, and ends
module _ (g : Graph) (root : ℕ) (mark stack bound finger : List ℕ) (P : Walked g mark stack bound finger 0 0 0) (h : root < g.size) where
  root-long : root < length mark
  root-long = omega (arith, P.small, P.marks)

  pub explore-path : get_or mark root 0 ≡ 0 → Walked g (set mark root 2) (set stack 0 root) (set bound 0 0) finger 1 1 1
  explore-path e = push g mark stack bound finger 0 0 0 P root h e (λ p hp. absurd (omega arith))

  pub explore-best : (best : ℕ) → Best g mark best → Best g (set mark root 2) best
  explore-best best B = best-same g mark (set mark root 2) best (not_done mark root 2 root-long (λ e. omega arith)) B

  pub explore-end : (mark' stack' bound' finger' : List ℕ) (len top at best : ℕ) → Walked g mark' stack' bound' finger' len top at → Best g mark' best
      → Grown g (set mark root 2) mark' → len ≤ 0 → Explored g root mark mark' stack' bound' finger' best
  unfolding free
  explore-end mark' stack' bound' finger' len top at best P' B more l = record {
    path = empty g mark' stack' bound' finger' len top at P' l;
    best_so_far = B;
    grown = λ i hi e. was_free 2 (λ z. omega arith) root mark root-long i (more i hi e);
    taken = not_so _ (λ e. never _ (more root h e) (ap (λ z. eqb z 0) (get_or-set_same mark root 2 0 root-long)));
  }

  pub explore-not : (best : ℕ) → Best g mark best → (get_or mark root 0 ≡ 0 → ⊥) → Explored g root mark mark stack bound finger best
  unfolding free
  explore-not best B d = record { path = P; best_so_far = B; grown = λ i hi e. e; taken = ne_eqb (get_or mark root 0) 0 d }

-- the first that is before itself is the lowest
pub selfless : (g : Graph) (r : ℕ) → r ≡ first (λ i. g.before i i) g.size → Selfless g r
selfless g r e = rw e (record {
  to = first-le (λ i. g.before i i) g.size;
  none = λ i h. first_below (λ i. g.before i i) g.size i h;
  hit = first-at (λ i. g.before i i) g.size;
})

-- at the start, best is the lowest index that is before itself
pub best-start : (g : Graph) (r : ℕ) → g.size < slots → Selfless g r → Best g (replicate slots 0) r
best-start g r h s = record {
  to = s.to;
  cyclic = λ l. cyclic-self g r (s.hit l);
  self = λ i hi e. by-lt i r (λ l. never (g.before i i) e (s.none i l)) (λ l. l);
  least = λ i hi e y. absurd (omega (arith, get_or-replicate {A = ℕ} slots i 0 0 (omega arith)));
}

-- when none is new, best is the lowest index on a cycle
pub best-first : (g : Graph) (mark stack bound finger : List ℕ) (best : ℕ) → Walked g mark stack bound finger 0 0 0 → Best g mark best
    → ((i : ℕ) → i < g.size → free mark i ≡ false) → best ≡ first (is_cyclic g) g.size
unfolding free
best-first g mark stack bound finger best P B all =
    by-lt best g.size
    (λ l. sym (first_found (is_cyclic g) g.size best (λ k hk. none k (omega arith) hk) l (B.cyclic l)))
    (λ l. let z = B.to in sym (first-none (is_cyclic g) g.size (λ k hk. none k hk (omega arith)) ∙ omega arith))
  where
    done : (i : ℕ) → i < g.size → get_or mark i 0 ≡ 1
    done i hi =
        by-eq (get_or mark i 0) 1 (λ e. e)
        (λ d. let t = two_up (get_or mark i 0) (eqb-false (get_or mark i 0) 0 (all i hi)) d in
        absurd (let o = (P.off i hi (get_or mark i 0 - 2) (omega arith)).0 in omega arith))

    none : (k : ℕ) → k < g.size → k < best → is_cyclic g k ≡ false
    none k hk l = not_so _ (λ e. let z = B.least k hk (done k hk) e in omega arith)
