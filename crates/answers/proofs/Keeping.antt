-- Transition k of accepted words: what the walk that marks its kept labels asks for is there, the bytes that it leaves are those of
-- the k-th key's class, the chosen labels among them are the key, and in reported order they are the assignments.
use Prim.Native.Nat.{ℕ, ◌-◌, ◌<◌, ◌≤◌}
use native.Mathlib.Omega.{arith}
use mathlib.Core.Path.{◌≡◌, refl, sym, ap, subst, ◌∙◌}
use mathlib.Core.Bool.{true}
use mathlib.Core.List.Memᴰ
use mathlib.Core.List.{List, ◌++◌, map}
use lib.ListN.{length, get_or, take, drop, length-map, length-append, length-take}
use lib.Seq.{take_at, get_or-take, length-take-le}
use Rattle.paper.specs.Limits.{most_depth, most_rows, slots}
use Rattle.paper.specs.declared.Label.{Label}
use Rattle.paper.specs.Lists.{those}
use Rattle.paper.specs.Formula.{ℓ, has, Formula}
use Rattle.paper.specs.Before.{before}
use Rattle.paper.specs.Order.{OrderOf}
use Rattle.paper.specs.Transition.{keys, is_kept}
use Rattle.paper.specs.Inside.Structure.Kept.{kept_at}
use Rattle.paper.proofs.Bools.{same_answer}
use Rattle.paper.proofs.Lists.{those-le, those-same}
use Rattle.paper.proofs.Labels.{mem-has, has-mem}
use Rattle.paper.proofs.Keys.{of-key, to-key}
use Rattle.paper.proofs.Numbers.{numbers-say}
use Rattle.paper.specs.Statements.{NumbersSay}
use Rattle.paper.proofs.Order.{reported-is-order}
use Rattle.entries.specs.Front.{in_front}
use Rattle.table.specs.declared.Layout.{Layout}
use Rattle.written.specs.Tables.{formula_in}
use Rattle.written.specs.Inside.Understood.{Understood}
use Rattle.table.specs.Table.{rows_in, reads_in, chosen_in}
use Rattle.rows.proofs.Rules.{rest}
use Rattle.written.proofs.Words.{map_back, word-mem}
use Rattle.rows.specs.Inside.Walk.{Walkable}
use Rattle.keys.specs.declared.Distinct.{Distinct}
use Rattle.marks.specs.Marks.{is_marked}
use Rattle.marks.specs.Inside.Chosen.{MarkedExactly, AllBelow}
use Rattle.keys.specs.Inside.Keys.{keys_at}
use Rattle.strategy.specs.declared.Accepted.{Accepted}
use Rattle.strategy.specs.Judge.{proposal_in}
use Rattle.strategy.proofs.Held.{parts-of, Reached, reached, walkable}
use Rattle.transitions.specs.Inside.Kept.{Keepable, MarkedKept}
use Rattle.transitions.specs.Inside.Assigned.{kept_of, Fillable}
use Rattle.transitions.specs.Statements.{kth_bytes, TransitionSays}
use Rattle.transitions.proofs.MarkedBytes.{length-bytes}
use Rattle.transitions.proofs.Words.{kept-labels, as-many-ordered}
use Rattle.transitions.proofs.Numbered.{transition-says, transition-keepable}
use Rattle.answers.specs.Requests.{reported, key_of, kept_marks, assigned_of}
use Rattle.answers.specs.Inside.Judged.{Amounts, AcceptedAs, Ordered, Based, BasedExactly, Assigned}
use Rattle.answers.proofs.Accepted.{is-sound, is-understood, is-strategy, count_is, few-transitions, few-chosen, reported-length}

-- what is made to work the transitions out from serves for it
pub is-based : (words : List ℕ) (l : Layout) {marks : List ℕ} {own : Distinct} → BasedExactly words l marks own → Based words l marks own
is-based words l b = record { marked = b.marked.marked; own_are = b.own_are }

relabelled : (ls : List Label) → map ℓ (map (λ (i : Label). i.0) ls) ≡ ls
relabelled = map_back (λ (i : Label). i.0) ℓ (λ i. refl)

module _ (words : List ℕ) (a : Accepted) (e : AcceptedAs words a) where
  abbrev l : Layout
  l = a.layout

  abbrev f : Formula
  f = formula_in words l

  abbrev A : List Label
  A = proposal_in words l

  u : Understood words l
  u = is-understood words a e

  pub parts-reached : Reached words l (is-sound words a e)
  parts-reached = reached words l (is-sound words a e)

  pub rows_fit : l.rows ≤ most_rows
  rows_fit = u.at_most_rows

  -- the parts as they are lent, each from its first word on
  abbrev lent_rows : List ℕ
  lent_rows = take (length words - l.rows_at) (drop l.rows_at words)

  abbrev lent_chosen : List ℕ
  lent_chosen = take (length words - l.chosen_at) (drop l.chosen_at words)

  rows-lent : lent_rows ≡ rows_in words l
  rows-lent = rest words l.rows_at

  chosen-lent : lent_chosen ≡ chosen_in words l
  chosen-lent =
      let n : length words - l.chosen_at ≡ l.chosen = omega (arith, u.all_words) in
      ap (λ n. take n (drop l.chosen_at words)) n

  chosen_below : AllBelow l.rows (chosen_in words l)
  chosen_below k h = u.chosen_below k (omega (arith, u.chosen_there))

  pub lent_below : (n : ℕ) → l.rows ≤ n → AllBelow n lent_chosen
  lent_below n h = rw chosen-lent (λ k i. let b = chosen_below k i in omega arith)

  pub lent-walkable : Walkable lent_rows l.rows 0
  lent-walkable = rw rows-lent (walkable (parts-of words l (is-sound words a e)))

  -- what the transitions are worked out from
  pub based-so : {marks : List ℕ} {own : Distinct} → MarkedExactly (map ℓ lent_chosen) marks → own ≡ keys_at lent_rows marks most_depth 0
      → BasedExactly words l marks own
  based-so {marks} m n = record { marked = subst (λ ws. MarkedExactly (map ℓ ws) marks) chosen-lent m; own_are = rw rows-lent at n }

  pub marks-length : (k : ℕ) → length (kept_marks words l k) ≡ l.rows
  marks-length k = rw u.labels_are (length-bytes (is_kept f A (key_of words l k)) l.rows)

  is-order : OrderOf (before f A) A (reported words l)
  is-order = reported-is-order l.variables f A (is-strategy words a e).acyclic

  module _ (k : ℕ) (h : k < a.transitions) where
    among : k < length (keys f A)
    among = omega (arith, count_is words a e)

    numbers : NumbersSay l.variables f A
    numbers = numbers-say l.variables f A u.well_formed (is-strategy words a e).homogeneous (is-strategy words a e).minimal

    says : TransitionSays l.variables f A k
    says =
        let s = is-strategy words a e in
        transition-says l.variables f A u.well_formed s.homogeneous s.minimal u.within.chosen_ascend k among

    pub keepable : {marks out : List ℕ} {own : Distinct} → Based words l marks own → length out ≡ most_rows
        → Keepable lent_rows marks out l.rows 0 most_depth own k
    keepable {marks} {out} {own} b room =
        let s = is-strategy words a e in
        rw rows-lent
        (transition-keepable l.variables f A u.well_formed s.homogeneous s.minimal u.within.chosen_ascend k among
        (reads_in words l) refl (walkable (parts-of words l (is-sound words a e))) b.marked (omega (arith, count_is words a e, few-transitions words a e))
        own b.own_are out (omega (arith, u.at_most_rows)))

    -- the bytes
    marks_are : kept_marks words l k ≡ kth_bytes f A k l.rows
    marks_are = rw u.labels_are (sym (says.marks_are l.rows))

    pub bytes_left : {marks lent left : List ℕ} {own : Distinct} → Based words l marks own → MarkedKept lent_rows marks l.rows k lent left
        → left ≡ in_front (kept_marks words l k) lent
    bytes_left {lent = lent} b s =
        let bytes = rw rows-lent at (s.bytes_are A b.marked (reads_in words l)) in
        bytes ∙ ap (λ bs. bs ++ drop l.rows lent) (sym marks_are) ∙ ap (λ n. kept_marks words l k ++ drop n lent) (sym (marks-length k))

    -- what the chosen labels that are kept are
    kept-in-key : (x : Label) → has A x ≡ true → has (kept_at A f k) x ≡ has (key_of words l k) x
    kept-in-key x t =
        let one = numbers.kth_key k among in
        same_answer (has (kept_at A f k) x) (has (key_of words l k) x) (λ i. subst (λ ls. has ls x ≡ true) (sym one) (to-key A (kept_at A f k) x i t))
        (λ i. (of-key A (kept_at A f k) x (subst (λ ls. has ls x ≡ true) one i)).0)

    assigned-length : length (assigned_of words l k) ≡ l.variables
    assigned-length =
        length-map (those (has (key_of words l k)) (reported words l)) (λ i. i.0)
        ∙ as-many-ordered (before f A) (has (key_of words l k)) u.within.chosen_ascend is-order
        ∙ ap length (those-same _ _ A (λ x t. sym (kept-in-key x (mem-has t)))
        ∙ sym (kept-labels (has (kept_at A f k)) l.rows (chosen_in words l) chosen_below) ∙ says.chosen_are l.rows (chosen_in words l) refl chosen_below)
        ∙ says.key_has

    -- once the bytes stand in front
    module _ (lent left : List ℕ) (stands : left ≡ in_front (kept_marks words l k) lent) where
      pub front-is : take l.rows left ≡ kept_marks words l k
      front-is = ap (take l.rows) stands ∙ take_at (kept_marks words l k) (drop (length (kept_marks words l k)) lent) l.rows (marks-length k)

      pub front-there : (l.rows ≤ length left) × (l.rows ≤ most_rows)
      front-there =
          (omega (arith, marks-length k, ap length stands, length-append (kept_marks words l k) (drop (length (kept_marks words l k)) lent)), u.at_most_rows)

      front_bytes : take l.rows left ≡ kth_bytes f A k l.rows
      front_bytes = front-is ∙ marks_are

      pub front_length : l.rows ≡ length (take l.rows left)
      front_length = sym (length-take-le l.rows left front-there.0)

      pub chosen-counted : length (kept_of (take l.rows left) lent_chosen) ≡ length (key_of words l k)
      chosen-counted =
          rw (front_bytes, chosen-lent)
          (sym (length-map (kept_of (kth_bytes f A k l.rows) (chosen_in words l)) ℓ)
          ∙ ap length (says.chosen_are l.rows (chosen_in words l) refl chosen_below))

      -- in reported order
      module _ (order : List ℕ) (o : Ordered words a order) where
        abbrev placed : List ℕ
        placed = take l.chosen order

        placed-labels : map ℓ placed ≡ reported words l
        placed-labels = ap (map ℓ) o.is_in_front ∙ relabelled (reported words l)

        pub placed-length : l.chosen ≡ length placed
        placed-length = sym (ap length o.is_in_front ∙ length-map (reported words l) (λ i. i.0) ∙ reported-length words a e)

        placed_below : AllBelow l.rows placed
        placed_below j i =
            let x = ℓ (get_or placed j 0) in
            let placed_one = subst (λ ls. has ls x ≡ true) placed-labels (mem-has (Memᴰ.map ℓ (word-mem placed j i))) in
            subst (λ n. get_or placed j 0 < n) u.size_is (u.within.chosen_below x (has-mem A x (is-order.from x placed_one)))

        pub fillable : (labels : List ℕ) → length labels ≡ slots → Fillable order l.chosen (take l.rows left) labels
        fillable labels room = record {
          there = omega (arith, placed-length, length-take l.chosen order);
          below = λ j i. let b = rw get_or-take at (placed_below j (omega (arith, placed-length))) in omega (arith, front_length);
          room = omega (arith, those-le (is_marked (take l.rows left)) placed, placed-length, few-chosen words a e);
        }

        assigned-are : kept_of (take l.rows left) placed ≡ assigned_of words l k
        assigned-are =
            rw front_bytes
            (sym (map_back ℓ (λ (i : Label). i.0) (λ n. refl) (kept_of (kth_bytes f A k l.rows) placed))
            ∙ ap (map (λ (i : Label). i.0))
            (kept-labels (has (kept_at A f k)) l.rows placed placed_below ∙ ap (those (has (kept_at A f k))) placed-labels
            ∙ those-same _ _ (reported words l) (λ x t. kept-in-key x (is-order.from x (mem-has t)))))

        -- what is left in words lent for them
        module _ (labels labels' : List ℕ) (filled : ℕ) (n : filled ≡ length (kept_of (take l.rows left) placed))
            (after : labels' ≡ kept_of (take l.rows left) placed ++ drop filled labels) where
          pub assigned-so : Assigned words l k lent left labels labels' filled
          assigned-so =
              let many = n ∙ ap length assigned-are in
              record {
                bytes = stands;
                in_order = after ∙ ap (λ ws. ws ++ drop filled labels) assigned-are ∙ ap (λ m. assigned_of words l k ++ drop m labels) many;
                many = many;
              }

    -- once the chosen labels stand in front: they are the assignments, and V
    module _ {kept kept' labels labels' : List ℕ} {n : ℕ} (p : Assigned words l k kept kept' labels labels' n) where
      pub assigned-many : n ≡ l.variables
      assigned-many = p.many ∙ assigned-length

      pub assigned-as-key : n ≡ length (key_of words l k)
      assigned-as-key = assigned-many ∙ sym says.key_has

      pub assigned-there : (n ≤ length labels') × (n ≤ slots)
      assigned-there = (
        omega (arith, p.many, ap length p.in_order, length-append (assigned_of words l k) (drop (length (assigned_of words l k)) labels)),
        omega (arith, assigned-many, u.at_most_variables),
      )

      pub assigned-front : take n labels' ≡ assigned_of words l k
      assigned-front =
          ap (take n) p.in_order ∙ take_at (assigned_of words l k) (drop (length (assigned_of words l k)) labels) n (sym p.many)

pub amounts : (words : List ℕ) (a : Accepted) → AcceptedAs words a → Amounts words a
amounts words a e = record {
  order_is = reported-length words a e;
  transition_is = marks-length words a e;
  assignments_are = assigned-length words a e;
  each_whole = λ k h. (says words a e k h).key_has;
}
