-- What is known of words that the judgement accepts: the table that they write, its bounds, that its proposal is a strategy, and
-- that the number of transitions is that of the distinct keys.
use Prim.Native.Nat.{ℕ, ◌≤◌}
use native.Mathlib.Omega.{arith}
use mathlib.Core.Path.{◌≡◌, refl, sym, ap, subst, ◌∙◌}
use mathlib.Core.Bool.{not}
use mathlib.Core.List.{List}
use lib.ListN.{length, take, drop, length-map, length-append}
use lib.Seq.{take_at, length-take-le, length_front}
use Rattle.paper.specs.Limits.{most_transitions, slots}
use Rattle.paper.specs.Formula.{ℓ, is_candidate}
use Rattle.paper.specs.Strategy.{Strategy}
use Rattle.paper.specs.Transition.{keys}
use Rattle.paper.proofs.Lists.{to_none}
use Rattle.paper.proofs.Labels.{mem-has}
use Rattle.entries.specs.Front.{in_front}
use Rattle.table.specs.Table.{checked, chosen_in}
use Rattle.written.specs.Tables.{formula_in}
use Rattle.written.specs.Inside.Understood.{Understood}
use Rattle.written.proofs.Tables.{understood}
use Rattle.strategy.specs.declared.Accepted.{Accepted}
use Rattle.strategy.specs.Judge.{judged_of, proposal_in, left_by, order_in, order_left, JudgedInto, AcceptedSo}
use Rattle.strategy.proofs.Exactly.{accepted-so}
use Rattle.strategy.proofs.Held.{parts-of, chosen-rows}
use Rattle.strategy.proofs.Strangers.{kinds-of}
use Rattle.strategy.proofs.Placed.{order-length}
use Rattle.filling.specs.Filling.{unless_short, Fills}
use Rattle.answers.specs.declared.Counts.{Counts}
use Rattle.answers.specs.Requests.{judge_answer, judge_of, reported, order_outcome, order_of}
use Rattle.answers.specs.Inside.Judged.{FitCounts, Ordered}
use Rattle.answers.proofs.Answers.{accepted-first}
use Rattle.std.specs.Prelude.{Result, Ok, Err}
use Rattle.filling.specs.declared.Length.{Length}
use Rattle.paper.specs.declared.Refusal.{Refusal}

module _ (words : List ℕ) (a : Accepted) (e : judged_of words ≡ Ok a) where
  known : AcceptedSo words a.layout a.transitions
  known = accepted-so words a.layout a.transitions e

  pub is-sound : checked words ≡ Ok a.layout
  is-sound = known.sound

  pub is-understood : Understood words a.layout
  is-understood = understood words a.layout is-sound

  pub is-strategy : Strategy a.layout.variables (formula_in words a.layout) (proposal_in words a.layout)
  is-strategy = known.strategy

  pub count_is : a.transitions ≡ length (keys (formula_in words a.layout) (proposal_in words a.layout))
  count_is = known.count

  pub few-transitions : a.transitions ≤ most_transitions
  few-transitions = omega (arith, known.count, known.few)

  -- a candidate takes two rows
  pub few-chosen : a.layout.chosen ≤ slots
  few-chosen =
      let p = parts-of words a.layout is-sound in
      let f = formula_in words a.layout in
      let none = to_none (λ x. not (is_candidate f x)) (proposal_in words a.layout) (λ x t. ap not (is-strategy.homogeneous x (mem-has t))) in
      omega (arith, (chosen-rows p (kinds-of p none)).few, is-understood.chosen_there)

  -- the reported order places all chosen labels
  pub reported-length : length (reported words a.layout) ≡ a.layout.chosen
  reported-length =
      let l = a.layout in
      order-length (formula_in words l) (proposal_in words l) is-understood.within.chosen_ascend is-strategy.acyclic
      ∙ length-map (chosen_in words l) ℓ ∙ is-understood.chosen_there

-- the counts of a judge request
abbrev counts_in : Result Counts Refusal → Counts → Counts
counts_in (Ok c) other = c
counts_in (Err x) other = other

pub counts-fit : (words : List ℕ) (c : Counts) → judge_of words ≡ Ok c → FitCounts c
unfolding judge_of
counts-fit words c e = go (judged_of words) refl e
  where
    go : (j : Result Accepted Refusal) → judged_of words ≡ j → judge_answer j ≡ Ok c → FitCounts c
    go (Err x) q e = let z : ◌≡◌ {A = ℕ} 0 1 = cc in absurd (omega arith)
    go (Ok a) q e =
        let u = is-understood words a q in
        subst FitCounts (ap (λ x. counts_in x c) e)
        (record { variables_fit = u.at_most_variables; rows_fit = u.at_most_rows; chosen_fit = u.at_most_chosen; transitions_fit = few-transitions words a q })

-- An acceptance leaves the reported order in front of the words that were lent for it.
module _ (words order₀ order : List ℕ) (a : Accepted) (e : judged_of words ≡ Ok a)
    (stands : order ≡ in_front (order_in words a.layout) order₀) where
  many : length (order_in words a.layout) ≡ a.layout.chosen
  many = length-map (reported words a.layout) (λ x. x.0) ∙ reported-length words a e

  pub order-in-front : Ordered words a order
  order-in-front = record {
    accepted = e;
    is_in_front = ap (take a.layout.chosen) stands
        ∙ take_at (order_in words a.layout) (drop (length (order_in words a.layout)) order₀) a.layout.chosen many;
  }

  -- it is all there
  pub all-in-front : (a.layout.chosen ≤ length order) × (a.layout.chosen ≤ slots)
  all-in-front = (
    omega (arith, many, ap length stands, length-append (order_in words a.layout) (drop (length (order_in words a.layout)) order₀)),
    few-chosen words a e,
  )

  -- and the words are as many as they were
  pub front-as-long : length order₀ ≡ slots → length order ≡ slots
  front-as-long n =
      let o = order_in words a.layout in
      let m = many in
      let few = few-chosen words a e in
      ap length stands ∙ length_front order₀ o (length o) (sym (length-take-le (length o) order₀ (omega arith))) ∙ n

-- The order that a judgement leaves.
module _ (words order₀ order : List ℕ) (j : Result Accepted Refusal) (i : JudgedInto words order₀ order j) (a : Accepted) (e : j ≡ Ok a) where
  pub accepts : judged_of words ≡ Ok a
  accepts = sym i.answered ∙ e

  stands-so : order ≡ in_front (order_in words a.layout) order₀
  unfolding order_left
  stands-so = i.left_so ∙ ap (λ r. left_by r (order_in words) order₀) accepts

  pub order_there : (a.layout.chosen ≤ length order) × (a.layout.chosen ≤ slots)
  order_there = all-in-front words order₀ order a accepts stands-so

  pub order-stands : Ordered words a order
  order-stands = order-in-front words order₀ order a accepts stands-so

  pub order-as-long : length order₀ ≡ slots → length order ≡ slots
  order-as-long = front-as-long words order₀ order a accepts stands-so

  pub order-filled : {lent left : List ℕ} {r : Result Length Refusal} → Fills (unless_short (length lent) (take a.layout.chosen order)) lent left r
      → Fills (order_of words (length lent)) lent left r
  order-filled {lent} f = accepted-first words j i.answered a e (order_outcome words (length lent)) (rw (← order-stands.is_in_front) f)
