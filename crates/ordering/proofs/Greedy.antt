-- The code's steps are those of the reported order: the lowest index that is ready is the first of those left that no
-- index left is before.
use Prim.Native.Nat.{ℕ, zero, suc, ◌+◌, ◌-◌, ◌<◌, ◌≤◌}
use native.Mathlib.Omega.{arith}
use native.Mathlib.Numerals.{add-one}
use mathlib.Core.Path.{◌≡◌, refl, sym, subst, ap, ◌∙◌}
use mathlib.Core.Bool.{true, false, not}
use mathlib.Core.List.{List, [], ◌∷◌, ◌++◌, append-nil}
use lib.Dec.{eqb}
use lib.ListN.{length, get_or, set, take, drop, replicate, length-set, length-map, length-replicate, get_or-replicate, take-append-drop, get_or-eq_default}
use lib.Seq.{take-suc-set, append_snoc, drop-set-lt, drop-drop, length-take-le}
use borrow.Author.Tests.{eq-eqb, ne_eqb, not-true}
use Rattle.paper.proofs.UpTo.{length-up_to, some-kept, none-some, none_kept, first-kept}
use Rattle.paper.specs.Limits.{slots}
use Rattle.paper.specs.Lists.{those}
use Rattle.paper.specs.Order.{is_ready, greedy_by}
use Rattle.paper.proofs.Bools.{and_right}
use Rattle.paper.proofs.Lists.{those-all}
use Rattle.paper.specs.Lists.{up_to}
use Rattle.entries.specs.Front.{in_front}
use Rattle.ordering.specs.Inside.Reported.{labelled}
use Rattle.fingers.specs.Inside.Graph.{Graph, free, left_of, Started}
use Rattle.ordering.specs.Inside.Placing.{State, Ready, rest, Placing}
use Rattle.paper.proofs.Tests.{by-eq, by-lt, never}
use Rattle.fingers.proofs.Left.{freed, was_free, left_after, left-shorter}

module _ (g : Graph) where
  -- a step of the order, and its end
  rest-step : (m : ℕ) (left : List ℕ) (k : ℕ) (js : List ℕ) → those (is_ready g.before left) left ≡ k ∷ js
      → rest g (suc m) left ≡ k ∷ rest g m (those (λ i. not (eqb i k)) left)
  rest-step m left k js e = rw (e, greedy_by)

  rest-stuck : (m : ℕ) (left : List ℕ) → those (is_ready g.before left) left ≡ [] → rest g m left ≡ []
  rest-stuck zero left e = refl
  rest-stuck (suc m) left e = rw (e, greedy_by)

  module _ (k : ℕ) (placed finger wait low : List ℕ) (s : State g k placed finger wait low) where
    -- an index below k that is left is not ready
    not-ready : (j : ℕ) → j < k → free placed j ≡ true → is_ready g.before (left_of g.size placed) j ≡ false
    unfolding left_of
    not-ready j h e =
        let b = s.blocked j h e in ap not (some-kept (λ i. g.before i j) (free placed) g.size (get_or wait j 0) b.inside b.waiting b.because)

    -- an index whose finger has passed all is ready
    is-ready : k < g.size → ((i : ℕ) → i < g.size → g.passed k (get_or finger k 0) i ≡ true) → is_ready g.before (left_of g.size placed) k ≡ true
    unfolding left_of
    is-ready h e = ap not (none-some (λ i. g.before i k) (free placed) g.size (λ i l q. s.clear k h i l (e i l) q))

    head-is : k < g.size → free placed k ≡ true → ((i : ℕ) → i < g.size → g.passed k (get_or finger k 0) i ≡ true)
        → (js : List ℕ) × (those (is_ready g.before (left_of g.size placed)) (left_of g.size placed) ≡ k ∷ js)
    unfolding left_of
    head-is h e f = first-kept (is_ready g.before (left_of g.size placed)) (free placed) g.size k h (λ i l q. not-ready i l q) e (is-ready h f)

    none_is : g.size ≤ k → those (is_ready g.before (left_of g.size placed)) (left_of g.size placed) ≡ []
    unfolding left_of
    none_is h = none_kept (is_ready g.before (left_of g.size placed)) (free placed) g.size (λ i l q. not-ready i (omega arith) q)

    -- the state after k is placed, from the lowest index on that waited for it
    pub state-after : k < g.size → (from : ℕ) → from ≤ get_or low k 0 → from ≤ k + 1 → State g from (set placed k 1) finger wait low
    state-after h from l m = record {
      small = s.small;
      places = length-set placed k 1 ∙ s.places;
      fingers = s.fingers;
      waits = s.waits;
      lows = s.lows;
      within = s.within;
      clear = λ j hj i hi t e. s.clear j hj i hi t (was i e);
      awaits = λ j hj hw e.
          let b = s.awaits j hj hw (was (get_or wait j 0) e) in
          record { inside = b.inside; waiting = e; because = b.because; seen = b.seen };
      blocked = λ j hj e. let b = s.blocked j (below j hj e) (was j e) in record {
        inside = b.inside;
        waiting = still (get_or wait j 0) b.waiting (λ q. omega (arith, b.seen, ap (λ (z : ℕ). get_or low z 0) q));
        because = b.because;
        seen = b.seen;
      };
    }
      where
        long : k < length placed
        long = omega (arith, s.small, s.places)

        was : (i : ℕ) → free (set placed k 1) i ≡ true → free placed i ≡ true
        was = was_free 1 (λ e. omega arith) k placed long

        below : (j : ℕ) → j < from → free (set placed k 1) j ≡ true → j < k
        below j hj e =
            by-eq j k
            (λ q. never (eqb j k) (eq-eqb j k q) (not-true _ (and_right (free placed j) _ (sym (freed 1 (λ z. omega arith) k placed long j) ∙ e))))
            (λ q. omega arith)

        still : (i : ℕ) → free placed i ≡ true → (i ≡ k → ⊥) → free (set placed k 1) i ≡ true
        still i e q = freed 1 (λ z. omega arith) k placed long i ∙ rw (e, ne_eqb i k q)

  -- one index more is placed
  module _ (chosen : List ℕ) (count k : ℕ) (placed finger wait low out₀ out : List ℕ) (w : Ready g k placed finger wait low)
      (p : Placing g chosen count placed out₀ out) where
    long : k < length placed
    long = omega (arith, w.inside, w.state.small, w.state.places)

    shorter : length (left_of g.size (set placed k 1)) < length (left_of g.size placed)
    shorter = left-shorter 1 (λ e. omega arith) k placed long g.size w.inside w.ready.0

    pub not_full : count < g.size
    not_full = let z = shorter in omega (arith, p.counted)

    pub placing-more : Placing g chosen (count + 1) (set placed k 1) out₀ (set out count (get_or chosen k 0))
    placing-more = record {
      size = length-set out count (get_or chosen k 0) ∙ p.size;
      counted = let z = shorter in omega (arith, p.counted);
      sofar = p.sofar ∙ one;
      behind =
          drop-set-lt (count + 1) out count (get_or chosen k 0) (omega arith) ∙ sym (drop-drop 1 count out)
          ∙ ap (drop 1) p.behind ∙ drop-drop 1 count out₀;
    }
      where
        head : (js : List ℕ) × (those (is_ready g.before (left_of g.size placed)) (left_of g.size placed) ≡ k ∷ js)
        head = head-is k placed finger wait low w.state w.inside w.ready.0 w.ready.1

        inside : count < length out
        inside = let z = not_full in omega (arith, p.size, w.state.small)

        fuel : g.size - count ≡ suc (g.size - (count + 1))
        fuel = let z = not_full in omega arith

        more : List ℕ
        more = labelled chosen (rest g (g.size - (count + 1)) (left_of g.size (set placed k 1)))

        one : take count out ++ labelled chosen (rest g (g.size - count) (left_of g.size placed))
            ≡ take (count + 1) (set out count (get_or chosen k 0)) ++ more
        one =
            ap (λ m. take count out ++ labelled chosen (rest g m (left_of g.size placed))) fuel
            ∙ ap (λ l. take count out ++ labelled chosen l) (rest-step (g.size - (count + 1)) (left_of g.size placed) k head.0 head.1)
            ∙ ap (λ l. take count out ++ labelled chosen (k ∷ rest g (g.size - (count + 1)) l)) (left_after 1 (λ e. omega arith) k placed long g.size)
            ∙ sym (append_snoc (take count out) (get_or chosen k 0) more)
            ∙ ap (λ l. l ++ more) (sym (take-suc-set out count (get_or chosen k 0) inside)
            ∙ ap (λ i. take i (set out count (get_or chosen k 0))) (sym (add-one count)))

  -- nothing is ready
  pub placing-done : (chosen : List ℕ) (count k : ℕ) (placed finger wait low out₀ out : List ℕ) → State g k placed finger wait low
      → Placing g chosen count placed out₀ out → g.size ≤ k
      → (count ≡ length (rest g g.size (up_to g.size))) × (out ≡ in_front (labelled chosen (rest g g.size (up_to g.size))) out₀)
  placing-done chosen count k placed finger wait low out₀ out s p h = (
    sym (sym (length-map (rest g g.size (up_to g.size)) (λ i. get_or chosen i 0)) ∙ ap length all ∙ long),
    sym (take-append-drop count out) ∙ ap (λ l. take count out ++ l) p.behind ∙ ap (λ l. take count out ++ drop l out₀) (sym long)
        ∙ ap (λ l. l ++ drop (length l) out₀) (sym all),
  )
    where
      all : labelled chosen (rest g g.size (up_to g.size)) ≡ take count out
      all =
          p.sofar
          ∙ ap (λ l. take count out ++ labelled chosen l) (rest-stuck (g.size - count) (left_of g.size placed) (none_is k placed finger wait low s h))
          ∙ append-nil (take count out)

      long : length (take count out) ≡ count
      long = length-take-le count out (omega (arith, p.size, p.counted, s.small))

  -- at the start
  state-first : (finger : List ℕ) → g.size < slots → Started g finger → State g 0 (replicate slots 0) finger (replicate slots 2048) (replicate slots 2048)
  state-first finger h s = record {
    small = h;
    places = length-replicate {A = ℕ} slots 0;
    fingers = s.size;
    waits = length-replicate {A = ℕ} slots 2048;
    lows = length-replicate {A = ℕ} slots 2048;
    within = s.within;
    clear = λ j hj i hi t e. s.clear j hj i hi t;
    awaits = λ j hj hw e. absurd (omega (arith, get_or-replicate {A = ℕ} slots j 2048 0 (omega arith)));
    blocked = λ j hj e. absurd (omega arith);
  }

  pub state-filled : (finger wait low : List ℕ) (#L : ℕ) → g.size < slots → Started g finger → #L ≡ slots → wait ≡ replicate #L 2048 → low ≡ replicate #L 2048
      → State g 0 (replicate slots 0) finger wait low
  state-filled finger wait low #L h s n e f = rw (e, f, n) (state-first finger h s)

  pub placing-first : (chosen out : List ℕ) → g.size < slots → length out ≡ slots → Placing g chosen 0 (replicate slots 0) out out
  unfolding left_of free
  placing-first chosen out h size = record {
    size = size;
    counted = subst (λ l. 0 + length l ≤ g.size) (sym whole) (omega (arith, length-up_to g.size));
    sofar = ap (λ m. labelled chosen (rest g m (up_to g.size))) none-off ∙ ap (λ l. labelled chosen (rest g (g.size - 0) l)) (sym whole);
    behind = refl;
  }
    where
      none-off : g.size ≡ g.size - 0
      none-off = omega arith

      whole : those (λ i. eqb (get_or (replicate slots 0) i 0) 0) (up_to g.size) ≡ up_to g.size
      whole = those-all _ (up_to g.size) (λ i t. eq-eqb _ 0 (zeros i))
        where
          zeros : (i : ℕ) → ◌≡◌ {A = ℕ} (get_or (replicate slots 0) i 0) 0
          zeros i =
              by-lt i slots (λ q. get_or-replicate {A = ℕ} slots i 0 0 q)
              (λ q. get_or-eq_default (replicate slots 0) 0 (subst (λ z. z ≤ i) (sym (length-replicate {A = ℕ} slots 0)) q))
