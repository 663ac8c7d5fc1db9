-- When an order exists (specs/Statements.antt, 4 and 6): the greedy order always respects R and takes each label of A at
-- most once, and it places every label exactly if R has no cycle, exactly if A has an order that respects R at all.
-- With no cycle some label left is ready: those that lead to a label are fewer than all, as it does not lead to itself.
use Prim.Native.Nat.{ℕ, zero, suc, ◌<◌, ◌≤◌}
use native.Mathlib.Omega.{arith}
use mathlib.Core.Path.{◌≡◌, refl, sym, subst, ap, ◌∙◌}
use mathlib.Core.Bool.{Bool, true, false, cond, not, ◌||◌, true≢false, false≢true}
use mathlib.Core.Logic.{◌⊎◌, inl, inr}
use mathlib.Core.List.{List, [], ◌∷◌}
use lib.ListN.{length}
use borrow.Author.Tests.{not-true}
use Rattle.paper.specs.Lists.{any_of, those}
use Rattle.paper.specs.Formula.{Label, same, has, Formula}
use Rattle.paper.specs.BoolForm.{Part}
use Rattle.paper.specs.Before.{before}
use Rattle.paper.specs.Order.{Acyclic, is_ready, greedy, order, Chain, leads, Respects, Once, OrderOf}
use Rattle.paper.specs.Statements.{Between, OrderExistsExactly, ReportedIsOrder}
use Rattle.paper.proofs.Bools.{or_left, or_right, or_cases, and_left, and_right, not_so, pick}
use Rattle.paper.proofs.Lists.{to-any, of-any, of_none, those-lt}
use Rattle.paper.proofs.Labels.{same_refl, same-eq, has-head, has-mem, mem-has, has-those, those-has}
use Rattle.paper.proofs.Cycle.{leads-chain, leads-step, leads-trans, on-cycle, acyclic-no-cycle}

-- The greedy order. What is left when j is placed:
abbrev without : Label → List Label → List Label
without j left = those (λ i. not (same i j)) left

without-lt : (j : Label) (left : List Label) → has left j ≡ true → length (without j left) < length left
without-lt j left h = those-lt (λ i. not (same i j)) left j (has-mem left j h) (ap not (same_refl j))

-- a label left is j, or is left still
apart : (j l : Label) (left : List Label) → has left l ≡ true → (same l j ≡ true) ⊎ (has (without j left) l ≡ true)
apart j l left h = go (same l j) refl
  where
    go : (t : Bool) → same l j ≡ t → (same l j ≡ true) ⊎ (has (without j left) l ≡ true)
    go true q = inl q
    go false q = inr (has-those (λ i. not (same i j)) left l h (ap not q))

module _ (R : Label → Label → Bool) where
  ready : (left : List Label) (j : Label) → is_ready R left j ≡ true → (i : Label) → has left i ≡ true → R i j ≡ true → ⊥
  ready left j k i h r = true≢false (sym (to-any (λ i. R i j) (has-mem left i h) r) ∙ not-true _ k)

  to-ready : (left : List Label) (j : Label) → ((i : Label) → has left i ≡ true → R i j ≡ true → ⊥) → is_ready R left j ≡ true
  to-ready left j h = ap not (not_so (any_of (λ i. R i j) left) λ q. let (i, t, r) = of-any (λ i. R i j) left q in h i (mem-has t) r)

  -- one step from the labels left: none of them is ready, or one that is ready is placed
  data Step (n : ℕ) (left : List Label) : List Label → Type 0 where
    stuck : ((l : Label) → has left l ≡ true → is_ready R left l ≡ false) → Step n left []
    places : (j : Label) → has left j ≡ true → is_ready R left j ≡ true → Step n left (j ∷ greedy R n (without j left))

  step : (n : ℕ) (left : List Label) → Step n left (greedy R (suc n) left)
  step n left = go (those (is_ready R left) left) refl
    where
      go : (rs : List Label) → those (is_ready R left) left ≡ rs → Step n left (elim rs [ [] ↦ [] | j ∷ js ↦ j ∷ greedy R n (without j left) ])
      go [] e = stuck λ l h. of_none (is_ready R left) left e l (has-mem left l h)
      go (j ∷ js) e = let (h, k) = those-has (is_ready R left) left j (rw e (has-head j js)) in places j h k

  abbrev SomeReady : List Label → Type 0
  SomeReady left = (m : Label) × (has left m ≡ true) × (is_ready R left m ≡ true)

  -- what is placed from the labels left, others being done
  record Placed (done left o : List Label) : Type 0 where
    respects : Respects R done o
    once : Once o
    from : Part (has o) (has left)

  nothing_placed : (done left : List Label) → Placed done left []
  nothing_placed done left = record { respects = tt; once = tt; from = λ l h. absurd (false≢true h) }

  module _ (A : List Label) (between : Between R A) where
    -- each label of A is done or left
    abbrev Parted : List Label → List Label → Type 0
    Parted done left = (l : Label) → has A l ≡ true → (has done l ≡ true) ⊎ (has left l ≡ true)

    -- whatever comes before a ready label is of A and is not left, so it is done
    greedy-places : (n : ℕ) (done left : List Label) → Parted done left → Placed done left (greedy R n left)
    greedy-places zero done left all = nothing_placed done left
    greedy-places (suc n) done left all = go (step n left) (greedy-places n)
      where
        go : {o : List Label} → Step n left o → ((done left : List Label) → Parted done left → Placed done left (greedy R n left)) → Placed done left o
        go (stuck none) more = nothing_placed done left
        go (places j here free) more = record {
          respects = (λ i r. pick (all i (between i j r).0) (λ d. d) (λ h. absurd (ready left j free i h r)), rest.respects);
          once = (not_so _ (λ h. true≢false (sym (same_refl j) ∙ not-true _ (kept j (rest.from j h)).1)), rest.once);
          from = λ l h. pick (or_cases (same l j) _ h) (λ q. subst (λ i. has left i ≡ true) (sym (same-eq l j q)) here) (λ q. (kept l (rest.from l q)).0);
        }
          where
            kept : (l : Label) → has (without j left) l ≡ true → (has left l ≡ true) × (not (same l j) ≡ true)
            kept = those-has (λ i. not (same i j)) left

            rest : Placed (j ∷ done) (without j left) (greedy R n (without j left))
            rest = more (j ∷ done) (without j left) λ l h.
                pick (all l h) (λ d. inl (or_right (same l j) _ d)) (λ k. pick (apart j l left k) (λ q. inl (or_left (same l j) _ q)) inr)

    module _ (no_cycle : (l : Label) → Chain R l l → ⊥) where
      -- among any labels of A one is ready: j, or one of those that lead to j, which are fewer
      some-ready : (n : ℕ) (left : List Label) → length left ≤ n → Part (has left) (has A) → (j : Label) → has left j ≡ true → SomeReady left
      some-ready zero [] le in_a j h = absurd (false≢true h)
      some-ready zero (x ∷ xs) le in_a j h = absurd (omega arith)
      some-ready (suc n) left le in_a j h = go (those up left) refl (some-ready n)
        where
          up : Label → Bool
          up i = leads R A i j

          fewer : length (those up left) < length left
          fewer = those-lt up left j (has-mem left j h) (not_so (up j) λ c. no_cycle j (leads-chain R A j j c))

          go : (us : List Label) → those up left ≡ us
              → ((left : List Label) → length left ≤ n → Part (has left) (has A) → (j : Label) → has left j ≡ true → SomeReady left) → SomeReady left
          go [] e more = (j, h, to-ready left j λ i k r. false≢true (subst (λ us. has us i ≡ true) e (has-those up left i k (leads-step R A i j r))))
          go (x ∷ xs) e more =
              let s = fewer in
              let (m, k, free) = more (those up left) (omega arith) (λ l q. in_a l (those-has up left l q).0) x (rw e (has-head x xs)) in
              let (lm, um) = those-has up left m k in
              let to_j : (i : Label) → R i m ≡ true → up i ≡ true = λ i r. leads-trans R A i m j (in_a m lm) (leads-step R A i m r) um in
              (m, lm, to-ready left m λ i q r. ready (those up left) m free i (has-those up left i q (to_j i r)) r)

      greedy-onto : (n : ℕ) (left : List Label) → length left ≤ n → Part (has left) (has A) → Part (has left) (has (greedy R n left))
      greedy-onto zero [] le in_a l h = h
      greedy-onto zero (x ∷ xs) le in_a l h = absurd (omega arith)
      greedy-onto (suc n) left le in_a l h = go (step n left) (greedy-onto n)
        where
          go : {o : List Label} → Step n left o
              → ((left : List Label) → length left ≤ n → Part (has left) (has A) → Part (has left) (has (greedy R n left))) → has o l ≡ true
          go (stuck none) more = let (m, k, free) = some-ready (suc n) left le in_a l h in absurd (true≢false (sym free ∙ none m k))
          go (places j here free) more =
              let s = without-lt j left here in
              pick (apart j l left h) (or_left (same l j) _)
              (λ k. or_right (same l j) _ (more (without j left) (omega arith) (λ i q. in_a i (those-has (λ i. not (same i j)) left i q).0) l k))

      pub all_placed : Part (has A) (has (order R A))
      all_placed = greedy-onto (length A) A (omega arith) (λ l h. h)

    -- where it places every label, the greedy order is an order of A
    pub order-of : Part (has A) (has (order R A)) → OrderOf R A (order R A)
    order-of onto = let p = greedy-places (length A) [] A (λ l h. inr h) in record { respects = p.respects; once = p.once; from = p.from; onto = onto }

-- An order of A makes it acyclic: i stands earlier than j in it.
earlier : List Label → Label → Label → Bool
earlier [] i j = false
earlier (x ∷ o) i j = cond (same i x) (has o j) (earlier o i j)

earlier-has : (o : List Label) (i j : Label) → earlier o i j ≡ true → has o j ≡ true
unfolding earlier
earlier-has [] i j h = absurd (false≢true h)
earlier-has (x ∷ o) i j h = go (same i x) h (earlier-has o i j)
  where
    go : (t : Bool) → cond t (has o j) (earlier o i j) ≡ true → (earlier o i j ≡ true → has o j ≡ true) → (same j x || has o j) ≡ true
    go true q r = or_right (same j x) _ q
    go false q r = or_right (same j x) _ (r q)

earlier-irreflexive : (o : List Label) → Once o → (i : Label) → earlier o i i ≡ false
unfolding earlier
earlier-irreflexive [] u i = refl
earlier-irreflexive (x ∷ o) u i = go (same i x) (same-eq i x) (earlier-irreflexive o u.1 i)
  where
    go : (t : Bool) → (t ≡ true → i ≡ x) → earlier o i i ≡ false → cond t (has o i) (earlier o i i) ≡ false
    go true q r = rw (q refl) u.0
    go false q r = r

earlier-transitive : (o : List Label) → Once o → (i j k : Label) → earlier o i j ≡ true → earlier o j k ≡ true → earlier o i k ≡ true
unfolding earlier
earlier-transitive [] u i j k a b = a
earlier-transitive (x ∷ o) u i j k a b = go (same i x) (same j x) (same-eq j x) a b (earlier-transitive o u.1 i j k)
  where
    go : (s t : Bool) → (t ≡ true → j ≡ x) → cond s (has o j) (earlier o i j) ≡ true → cond t (has o k) (earlier o j k) ≡ true
        → (earlier o i j ≡ true → earlier o j k ≡ true → earlier o i k ≡ true) → cond s (has o k) (earlier o i k) ≡ true
    go true true q a b r = b
    go true false q a b r = earlier-has o j k b
    go false true q a b r = absurd (true≢false (sym (subst (λ l. has o l ≡ true) (q refl) (earlier-has o i j a)) ∙ u.0))
    go false false q a b r = r a b

earlier-total : (o : List Label) (i j : Label) → has o i ≡ true → has o j ≡ true → (earlier o i j ≡ true) ⊎ ((i ≡ j) ⊎ (earlier o j i ≡ true))
unfolding earlier
earlier-total [] i j a b = absurd (false≢true a)
earlier-total (x ∷ o) i j a b = go (same i x) (same-eq i x) (same j x) (same-eq j x) a b (earlier-total o i j)
  where
    go : (s : Bool) → (s ≡ true → i ≡ x) → (t : Bool) → (t ≡ true → j ≡ x) → (s || has o i) ≡ true → (t || has o j) ≡ true
        → (has o i ≡ true → has o j ≡ true → (earlier o i j ≡ true) ⊎ ((i ≡ j) ⊎ (earlier o j i ≡ true)))
        → (cond s (has o j) (earlier o i j) ≡ true) ⊎ ((i ≡ j) ⊎ (cond t (has o i) (earlier o j i) ≡ true))
    go true p true q a b r = inr (inl (p refl ∙ sym (q refl)))
    go true p false q a b r = inl b
    go false p true q a b r = inr (inr a)
    go false p false q a b r = r a b

module _ (R : Label → Label → Bool) where
  earlier-respects : (done o : List Label) → Respects R done o → (i j : Label) → has o j ≡ true → R i j ≡ true → (has done i ≡ true) ⊎ (earlier o i j ≡ true)
  unfolding earlier
  earlier-respects done [] u i j h r = absurd (false≢true h)
  earlier-respects done (x ∷ o) u i j h r = go (same j x) (same-eq j x) h (earlier-respects (x ∷ done) o u.1 i j)
    where
      go : (t : Bool) → (t ≡ true → j ≡ x) → (t || has o j) ≡ true
          → (has o j ≡ true → R i j ≡ true → ((same i x || has done i) ≡ true) ⊎ (earlier o i j ≡ true))
          → (has done i ≡ true) ⊎ (cond (same i x) (has o j) (earlier o i j) ≡ true)
      go true q k w = inl (u.0 i (subst (λ l. R i l ≡ true) (q refl) r))
      go false q k w = at (same i x) (w k r)
        where
          at : (s : Bool) → ((s || has done i) ≡ true) ⊎ (earlier o i j ≡ true) → (has done i ≡ true) ⊎ (cond s (has o j) (earlier o i j) ≡ true)
          at true c = inr k
          at false c = c

  module _ (A : List Label) (between : Between R A) where
    pub order-acyclic : (o : List Label) → OrderOf R A o → Acyclic R A
    order-acyclic o r = record {
      ◌≺◌ = earlier o;
      irreflexive = λ i h. earlier-irreflexive o r.once i;
      transitive = earlier-transitive o r.once;
      total = λ i j h k. earlier-total o i j (r.onto i h) (r.onto j k);
      respects = λ i j h. pick (earlier-respects [] o r.respects i j (r.onto j (between i j h).1) h) (λ e. absurd (false≢true e)) (λ e. e);
    }

    placed-acyclic : Part (has A) (has (order R A)) → Acyclic R A
    placed-acyclic onto = order-acyclic (order R A) (order-of R A between onto)

    acyclic-placed : Acyclic R A → Part (has A) (has (order R A))
    acyclic-placed a = all_placed R A between (acyclic-no-cycle R A between a)

pub order-exists : (R : Label → Label → Bool) (A : List Label) → OrderExistsExactly R A
order-exists R A between = record {
  placed = (acyclic-placed R A between, placed-acyclic R A between);
  no_cycle = (acyclic-no-cycle R A between, λ free. placed-acyclic R A between (all_placed R A between free));
  tested = on-cycle R A between;
}

-- "before" is a relation between labels of A
pub before-between : (f : Formula) (A : List Label) → Between (before f A) A
before-between f A i j h = (and_left (has A i) _ h, and_left (has A j) _ (and_right (has A i) _ h))

pub reported-is-order : (#V : ℕ) (f : Formula) (A : List Label) → ReportedIsOrder #V f A
reported-is-order #V f A a = order-of (before f A) A (before-between f A) (acyclic-placed (before f A) A (before-between f A) a)
