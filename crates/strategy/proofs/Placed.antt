-- Refusal 13. The reported order over labels is that over their indices, and so are the cycles. An order that places as many labels
-- as there are places all of them, so there is no cycle; one that places fewer leaves a cycle, since without one all are placed and
-- labels that ascend are no more than the list that holds them all.
use Prim.Native.Nat.{ℕ, zero, suc, ◌<◌, ◌≤◌}
use native.Mathlib.Omega.{arith}
use mathlib.Core.Path.{◌≡◌, refl, sym, ap, subst, ◌∙◌}
use mathlib.Core.Bool.{Bool, true, false, not, false≢true}
use mathlib.Core.List.{List, [], ◌∷◌, map, map-map}
use lib.ListN.{length, get_or, length-map}
use borrow.Author.Tests.{ne_eqb}
use Rattle.paper.specs.declared.refusals.Fault.TheVariants.{NoOrder}
use Rattle.paper.specs.Refusals.{refusal}
use Rattle.paper.specs.declared.Label.{Label}
use Rattle.paper.specs.Lists.{those}
use Rattle.paper.specs.Formula.{ℓ, same, has, Rising, Formula}
use Rattle.paper.specs.Before.{before}
use Rattle.paper.specs.Order.{Acyclic, is_ready, greedy, order, on_cycle}
use Rattle.paper.specs.Judgement.{refused, on_cycles, judge_count, judge_order}
use Rattle.paper.specs.Statements.{OrderExists}
use Rattle.paper.proofs.Bools.{or_left, or_right, not_so, pick}
use Rattle.paper.proofs.Lists.{to_none, those-lt}
use Rattle.paper.proofs.Labels.{same_refl, has-mem, has-head, has-those, those-has, rising-above}
use Rattle.paper.proofs.Cycle.{chain-starts}
use Rattle.paper.proofs.Order.{order-exists, before-between}
use Rattle.rows.specs.Rows.{kind_of}
use Rattle.rows.proofs.Meets.{lt-or-le}
use Rattle.net.specs.declared.Net.{Net}
use Rattle.net.specs.Inside.Net.{Chosen, IsNet}
use Rattle.net.proofs.PriorIsBefore.{order-by-rows, cycle-by-rows}
use Rattle.cycles.specs.Inside.Cyclic.{is_on_cycle, lowest_on_cycle}
use Rattle.entries.specs.Front.{in_front}
use Rattle.ordering.specs.Inside.Reported.{ordered, labelled, OrderFilled}
use Rattle.fingers.specs.Inside.Followable.{Followable}
use Rattle.strategy.specs.Judge.{proposal_of, words_of_order}
use Rattle.strategy.specs.Inside.Parts.{Parts, Covered, formula_of}
use Rattle.strategy.proofs.Held.{parts-write, rows_are, ascend-all, chosen-rows, ready}
use Rattle.strategy.proofs.Strangers.{offender, none-offends, kinds-of}

-- a list that has a label is not empty
has_some : (xs : List Label) (l : Label) → has xs l ≡ true → 0 < length xs
has_some [] l h = absurd (false≢true h)
has_some (x ∷ xs) l h = omega arith

-- labels that rise are no more than the members of a list that has them all
rising-fits : (p : ℕ) (xs ys : List Label) → Rising p xs → ((l : Label) → has xs l ≡ true → has ys l ≡ true) → length xs ≤ length ys
rising-fits p [] ys r all = omega arith
rising-fits p (x ∷ xs) ys r all =
    let fewer = those-lt (λ i. not (same i x)) ys x (has-mem ys x (all x (has-head x xs))) (ap not (same_refl x)) in
    let rest = rising-fits (suc x.0) xs (those (λ i. not (same i x)) ys) r.1 left in
    omega arith
  where
    left : (l : Label) → has xs l ≡ true → has (those (λ i. not (same i x)) ys) l ≡ true
    left l h =
        let b = rising-above xs l r.1 h in
        has-those (λ i. not (same i x)) ys l (all l (or_right (same l x) (has xs l) h)) (ap not (ne_eqb l.0 x.0 (λ e. omega arith)))

-- The greedy order of the labels left takes at most so many as it has steps; where it takes as many as are left, it takes all.
module _ (R : Label → Label → Bool) where
  abbrev next : ℕ → List Label → List Label → List Label
  next n left rs = elim rs [ [] ↦ [] | j ∷ js ↦ j ∷ greedy R n (those (λ i. not (same i j)) left) ]

  greedy-le : (n : ℕ) (left : List Label) → length (greedy R n left) ≤ n
  greedy-le zero left = omega arith
  greedy-le (suc n) left = go (those (is_ready R left) left) (greedy-le n)
    where
      go : (rs : List Label) → ((left : List Label) → length (greedy R n left) ≤ n) → length (next n left rs) ≤ suc n
      go [] more = omega arith
      go (j ∷ js) more = let z = more (those (λ i. not (same i j)) left) in omega arith

  places-all : (n : ℕ) (left : List Label) → length left ≤ length (greedy R n left) → (l : Label) → has left l ≡ true → has (greedy R n left) l ≡ true
  places-all zero left le l h = let z = has_some left l h in absurd (omega arith)
  places-all (suc n) left le l h = go (those (is_ready R left) left) refl le (places-all n)
    where
      go : (rs : List Label) → those (is_ready R left) left ≡ rs → length left ≤ length (next n left rs)
          → ((left : List Label) → length left ≤ length (greedy R n left) → (l : Label) → has left l ≡ true → has (greedy R n left) l ≡ true)
          → has (next n left rs) l ≡ true
      go [] e le more = let z = has_some left l h in absurd (omega arith)
      go (j ∷ js) e le more = by (same l j) refl
        where
          rest : List Label
          rest = those (λ i. not (same i j)) left

          fewer : length rest < length left
          fewer = those-lt (λ i. not (same i j)) left j (has-mem left j (those-has (is_ready R left) left j (rw e (has-head j js))).0) (ap not (same_refl j))

          by : (t : Bool) → same l j ≡ t → has (j ∷ greedy R n rest) l ≡ true
          by true q = or_left (same l j) (has (greedy R n rest) l) q
          by false q =
              let z = fewer in
              or_right (same l j) (has (greedy R n rest) l) (more rest (omega arith) l (has-those (λ i. not (same i j)) left l h (ap not q)))

module _ (f : Formula) (A : List Label) where
  orders : OrderExists (before f A) A
  orders = order-exists (before f A) A (before-between f A)

  pub acyclic-of : on_cycles f A ≡ [] → Acyclic (before f A) A
  acyclic-of e = orders.no_cycle.1 λ l c.
      let h = has-those (on_cycle (before f A) A) A l (chain-starts (before f A) A (before-between f A) c) ((orders.tested l).1 c) in
      false≢true (subst (λ ls. has ls l ≡ true) e h)

  cycles-none : Acyclic (before f A) A → on_cycles f A ≡ []
  cycles-none a = to_none (on_cycle (before f A) A) A (λ l t. not_so _ λ c. orders.no_cycle.0 a l ((orders.tested l).0 c))

  -- an order that places as many labels as there are leaves no cycle
  all_placed : length A ≤ length (order (before f A) A) → on_cycles f A ≡ []
  all_placed h = cycles-none (orders.placed.1 (places-all (before f A) (length A) A h))

  -- with an order, all labels are placed, each once
  pub order-length : Rising 0 A → Acyclic (before f A) A → length (order (before f A) A) ≡ length A
  order-length r a =
      let le = greedy-le (before f A) (length A) A in
      let ge = rising-fits 0 A (order (before f A) A) r (orders.placed.0 a) in
      omega arith

module _ {rows reads chosen : List ℕ} {#V #N : ℕ} (c : Covered rows reads chosen #V #N) where
  abbrev p : Parts rows reads chosen #V #N
  p = c.parts

  kinds : (k : ℕ) → k < length chosen → kind_of rows (get_or chosen k 0) ≡ 2
  kinds = kinds-of p c.no_strangers

  -- what the net and the order ask
  pub choice : Chosen rows chosen #N
  choice = chosen-rows p kinds

  pub readied : {net : Net} → IsNet rows chosen #N net → Followable rows reads chosen net #N
  readied n = ready p choice n

  abbrev f : Formula
  f = formula_of rows reads

  abbrev A : List Label
  A = proposal_of chosen

  by-indices : order (before f A) A ≡ map (λ k. ℓ (get_or chosen k 0)) (ordered rows reads chosen)
  unfolding ordered
  by-indices = order-by-rows rows reads f (parts-write p) chosen #N (rows_are p) p.below kinds (ascend-all chosen p.ascends)

  -- the labels of the indices that are placed are the reported order
  order_is : words_of_order f A ≡ labelled chosen (ordered rows reads chosen)
  order_is = ap (map (λ l. l.0)) by-indices ∙ map-map (λ (l : Label). l.0) (λ k. ℓ (get_or chosen k 0)) (ordered rows reads chosen)

  pub reported-length : length (words_of_order f A) ≡ length (ordered rows reads chosen)
  reported-length = ap length order_is ∙ length-map (ordered rows reads chosen) (λ k. get_or chosen k 0)

  many-placed : length (order (before f A) A) ≡ length (ordered rows reads chosen)
  many-placed = ap length by-indices ∙ length-map (ordered rows reads chosen) (λ k. ℓ (get_or chosen k 0))

  -- no more are placed than there are
  pub order-fits : length (ordered rows reads chosen) ≤ length chosen
  order-fits = omega (arith, greedy-le (before f A) (length A) A, many-placed, length-map chosen ℓ)

  as-indexed : (k : ℕ) → k < length chosen → is_on_cycle rows reads chosen k ≡ on_cycle (before f A) A (ℓ (get_or chosen k 0))
  unfolding is_on_cycle
  as-indexed k h = sym (cycle-by-rows rows reads f (parts-write p) chosen #N (rows_are p) p.below kinds (ascend-all chosen p.ascends) k h)

  -- fewer are placed: the lowest index on a cycle is one
  pub some-cycle : length (ordered rows reads chosen) < length chosen → lowest_on_cycle rows reads chosen < length chosen
  unfolding lowest_on_cycle
  some-cycle h = pick (lt-or-le (lowest_on_cycle rows reads chosen) (length chosen)) (λ l. l) none
    where
      none : length chosen ≤ lowest_on_cycle rows reads chosen → lowest_on_cycle rows reads chosen < length chosen
      none l =
          let e = none-offends (on_cycle (before f A) A) chosen (is_on_cycle rows reads chosen) as-indexed l in
          let z = order-length f A p.ascends (acyclic-of f A e) in
          absurd (omega (arith, many-placed, length-map chosen ℓ))

  pub order-refuses : length (ordered rows reads chosen) < length chosen
      → judge_order #V f A ≡ refused (refusal NoOrder (get_or chosen (lowest_on_cycle rows reads chosen) 0))
  unfolding lowest_on_cycle
  order-refuses h =
      let (others, e) = offender (on_cycle (before f A) A) chosen (is_on_cycle rows reads chosen) as-indexed (some-cycle h) in rw e

  pub order-passes : length chosen ≤ length (ordered rows reads chosen) → judge_order #V f A ≡ judge_count #V f A
  order-passes h = let e = all_placed f A (omega (arith, many-placed, length-map chosen ℓ)) in rw e

  pub order-left : {lent left : List ℕ} {count : ℕ} → OrderFilled rows reads chosen lent left count → left ≡ in_front (words_of_order f A) lent
  order-left {lent} d = d.filled ∙ ap (λ o. in_front o lent) (sym order_is)
