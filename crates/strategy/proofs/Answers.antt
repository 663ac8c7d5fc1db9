-- Refusals 11, 12 and 14, and the chain of all five: once no variable is missed or doubled the proposal is a minimal covering, whose
-- number of keys is the one that is counted over the rows; and the answer of the checks, one after another, is that of the paper's
-- judgement of the formula that the words write.
use Prim.Native.Nat.{ℕ, ◌<◌, ◌≤◌}
use native.Mathlib.Omega.{arith}
use mathlib.Core.Path.{◌≡◌, refl, sym, ap, subst, ◌∙◌}
use mathlib.Core.List.{List, ◌++◌}
use lib.Dec.{ltb}
use lib.ListN.{length, get_or, take, drop, length-append}
use lib.Seq.{take_at}
use Rattle.paper.specs.declared.refusals.Fault.TheVariants.{NoCandidate, NoOrder}
use Rattle.paper.specs.declared.Refusal.{Refusal}
use Rattle.paper.specs.Limits.{most_transitions, most_depth, slots}
use Rattle.paper.specs.Transition.{keys}
use Rattle.paper.specs.Judgement.{Judgement, accepted, refused}
use Rattle.paper.specs.Judgement.{judge_count, judge_order, judge}
use Rattle.paper.proofs.Numbers.{numbers-say}
use Rattle.table.specs.declared.Layout.{Layout}
use Rattle.entries.specs.First.{first}
use Rattle.table.specs.Table.{checked, rows_in, reads_in, chosen_in}
use Rattle.written.specs.Tables.{formula_in}
use Rattle.cover.specs.declared.Uncovered.{Uncovered}
use Rattle.marks.specs.Inside.Chosen.{Marked}
use Rattle.cover.specs.Inside.Masks.{refusal_of, covering_of, judgement_of}
use Rattle.keys.specs.Inside.Keys.{total, keys_at}
use Rattle.cover.proofs.CoveringSays.{covering-says, gives-covered}
use Rattle.keys.proofs.KeyNumbers.{keys-past-limit, keys-number}
use Rattle.cycles.specs.Inside.Cyclic.{lowest_on_cycle}
use Rattle.entries.specs.Front.{in_front}
use Rattle.ordering.specs.Inside.Reported.{OrderFilled}
use Rattle.strategy.specs.declared.Accepted.{Accepted}
use Rattle.strategy.specs.Verdict.{refused_at, as_judged}
use Rattle.paper.proofs.Judgement.{homogeneous-of, minimal-of}
use Rattle.strategy.specs.Inside.Checks.{is_stranger, counted_as}
use Rattle.strategy.proofs.Verdicts.{counted-answer}
use Rattle.strategy.specs.Judge.{proposal_of, proposal_in, judged_of, words_of_order, left_by, order_in, order_left, JudgedInto}
use Rattle.strategy.specs.Inside.Parts.{Parts, formula_of, Covered, JudgedBy, OrderedParts, JudgedParts}
use Rattle.strategy.proofs.Held.{lent_rows, lent_reads, lent_chosen, of-lent, walkable, few-labels}
use Rattle.strategy.proofs.Strangers.{first-stranger, no-stranger}
use Rattle.strategy.proofs.Placed.{choice, some-cycle, reported-length, order-fits, order-refuses, order-passes, order-left}
use Rattle.std.specs.Prelude.{Result, Ok, Err}

pub count-answers : {rows reads chosen : List ℕ} {#V #N : ℕ} {marks : List ℕ} (l : Layout) → Covered rows reads chosen #V #N → Marked (proposal_of chosen) marks
    → as_judged l (judge_count #V (formula_of rows reads) (proposal_of chosen)) ≡ counted_as l (total (keys_at rows marks most_depth 0))
count-answers {rows} {reads} {chosen} {#V} {#N} {marks} l c marked =
    let f = formula_of rows reads in
    let A = proposal_of chosen in
    let minimal = minimal-of #V f A c.none_missed c.none_doubled in
    let n = (numbers-say #V f A c.parts.well_formed (homogeneous-of #V f A c.no_strangers) minimal).count in
    let w = walkable c.parts in
    counted-answer l _ _ _ (length (keys f A)) (total (keys_at rows marks most_depth 0))
    (keys-past-limit rows marks most_depth 0 A marked w reads ∙ ap (ltb most_transitions) (sym n))
    (λ h. keys-number rows marks most_depth 0 A marked w reads h ∙ sym n)

module _ (rows reads chosen : List ℕ) where
  abbrev judgement_by : ℕ → Judgement
  judgement_by #V = judge #V (formula_of rows reads) (proposal_of chosen)

  abbrev reported : List ℕ
  reported = words_of_order (formula_of rows reads) (proposal_of chosen)

  abbrev left_after : List ℕ → Result Accepted Refusal → List ℕ
  left_after lent r = left_by r (λ _. reported) lent

-- A refusal leaves all as it was.
module _ {rows reads chosen : List ℕ} {l : Layout} {j : Judgement} {r : Result Accepted Refusal} where
  refused-so : {x : Refusal} (lent : List ℕ) → j ≡ refused x → r ≡ Err x → JudgedBy rows reads chosen l lent lent r j
  refused-so lent e q = record { answered = q ∙ sym (ap (as_judged l) e); left_so = sym (ap (λ i. left_after rows reads chosen lent (as_judged l i)) e) }

-- The chain, from its end. 13 and 14: the order leaves a cycle, or places all and the transitions are counted.
module _ {rows reads chosen : List ℕ} (l : Layout) {order₀ order : List ℕ} {count : ℕ} (c : Covered rows reads chosen l.variables l.rows)
    (filled : OrderFilled rows reads chosen order₀ order count) where
  pub cycle-there : {k : ℕ} → count < length chosen → k ≡ lowest_on_cycle rows reads chosen → (k < length chosen) × (length chosen ≤ 2047)
  cycle-there h e = (omega (arith, some-cycle c (omega (arith, filled.number))), (choice c).few)

  pub cycle-refused : {k : ℕ} {r : Result Accepted Refusal} (lent : List ℕ) → count < length chosen → k ≡ lowest_on_cycle rows reads chosen
      → r ≡ refused_at NoOrder (get_or chosen k 0)
      → OrderedParts rows reads chosen l lent lent r
  cycle-refused lent h e q =
      refused-so lent (order-refuses c (omega (arith, filled.number))) (q ∙ ap (λ n. refused_at NoOrder (get_or chosen n 0)) e)

  many : length (reported rows reads chosen) ≡ count
  many = reported-length c ∙ sym filled.number

  -- what is copied on acceptance is all there
  pub order_there : (lent : List ℕ) → length lent ≡ slots → (count ≤ length order) × (count ≤ slots) × (count ≤ length lent)
  order_there lent room =
      let few = order-fits c in
      let n = ap length (order-left c filled) ∙ length-append (reported rows reads chosen) (drop (length (reported rows reads chosen)) order₀) in
      let m = many in
      let f = filled.number in
      let k = (choice c).few in
      (omega arith, omega arith, omega arith)

  copied-order : (lent : List ℕ) → take count order ++ drop count lent ≡ in_front (reported rows reads chosen) lent
  copied-order lent =
      rw (order-left c filled, take_at (reported rows reads chosen) (drop (length (reported rows reads chosen)) order₀) count many, many)

  -- all are placed, and the count answers
  module _ {marks : List ℕ} {r : Result Accepted Refusal} (all : length chosen ≤ count) (marked : Marked (proposal_of chosen) marks)
      (counted : r ≡ counted_as l (total (keys_at rows marks most_depth 0))) where
    as-judged : r ≡ as_judged l (judge_order l.variables (formula_of rows reads) (proposal_of chosen))
    as-judged = counted ∙ sym (ap (as_judged l) (order-passes c (omega (arith, filled.number))) ∙ count-answers l c marked)

    pub count-refused : {x : Refusal} (lent : List ℕ) → r ≡ Err x → OrderedParts rows reads chosen l lent lent r
    count-refused lent e = record { answered = as-judged; left_so = ap (left_after rows reads chosen lent) (sym e ∙ as-judged) }

    pub count-accepted : {a : Accepted} {lent left : List ℕ} → r ≡ Ok a → left ≡ take count order ++ drop count lent
        → OrderedParts rows reads chosen l lent left r
    count-accepted {lent = lent} e d = record {
      answered = as-judged;
      left_so = d ∙ copied-order lent ∙ ap (left_after rows reads chosen lent) (sym e ∙ as-judged);
    }

-- 10 to 12: refused at a stranger; refused by the covering; or all passed
module _ {rows reads chosen : List ℕ} (l : Layout) (p : Parts rows reads chosen l.variables l.rows) {k : ℕ}
    (found : k ≡ first (is_stranger rows chosen) (length chosen)) where
  pub stranger-refused : {r : Result Accepted Refusal} (lent : List ℕ) → k < length chosen → r ≡ refused_at NoCandidate (get_or chosen k 0)
      → JudgedParts rows reads chosen l lent lent r
  stranger-refused lent h q =
      let (others, e) = first-stranger p (omega arith) in
      refused-so lent (rw e) (q ∙ ap (λ n. refused_at NoCandidate (get_or chosen n 0)) found)

  module _ {marks : List ℕ} (marked : Marked (proposal_of chosen) marks) (passed : length chosen ≤ k) where
    covering-decides : judgement_by rows reads chosen l.variables
        ≡ judgement_of (covering_of rows marks l.variables) (judge_order l.variables (formula_of rows reads) (proposal_of chosen))
    covering-decides =
        rw (no-stranger p (omega arith))
        (covering-says rows reads refl marked (few-labels p) p.well_formed (judge_order l.variables (formula_of rows reads) (proposal_of chosen)))

    pub uncovered-refused : {r : Result Accepted Refusal} {x : Uncovered} (lent : List ℕ) → covering_of rows marks l.variables ≡ Err x
        → r ≡ Err (refusal_of x) → JudgedParts rows reads chosen l lent lent r
    uncovered-refused lent e q = refused-so lent (covering-decides ∙ rw e) q

    pub all-covered : covering_of rows marks l.variables ≡ Ok tt → Covered rows reads chosen l.variables l.rows
    all-covered e =
        let (none_missed, none_doubled) = (gives-covered rows reads refl marked (few-labels p) p.well_formed).0 e in
        record { parts = p; no_strangers = no-stranger p (omega arith); none_missed = none_missed; none_doubled = none_doubled }

    pub covered-judged : {r : Result Accepted Refusal} {lent left : List ℕ} → covering_of rows marks l.variables ≡ Ok tt
        → OrderedParts rows reads chosen l lent left r → JudgedParts rows reads chosen l lent left r
    covered-judged {r} {lent} {left} e o = subst (JudgedBy rows reads chosen l lent left r) (sym (covering-decides ∙ rw e)) o

-- Whole words.
pub refused-whole : {words : List ℕ} {x : Refusal} (lent : List ℕ) → checked words ≡ Err x → JudgedInto words lent lent (Err x)
unfolding judged_of order_left
refused-whole lent e = record { answered = rw e; left_so = rw e }

judged-whole : {words lent left : List ℕ} {l : Layout} {r : Result Accepted Refusal} → checked words ≡ Ok l
    → JudgedParts (rows_in words l) (reads_in words l) (chosen_in words l) l lent left r → JudgedInto words lent left r
unfolding judged_of order_left
judged-whole {words} {lent} {l = l} e j =
    record { answered = rw e j.answered; left_so = rw e (j.left_so ∙ same_layout (judge l.variables (formula_in words l) (proposal_in words l))) }
  where
    -- an answer's layout is the one that it was given
    same_layout : (j : Judgement) → left_by (as_judged l j) (λ _. order_in words l) lent ≡ left_by (as_judged l j) (order_in words) lent
    same_layout (accepted v n s t) = refl
    same_layout (refused x) = refl

-- the same of the parts as they are lent
pub judged-lent : {words lent left : List ℕ} {l : Layout} {r : Result Accepted Refusal} (e : checked words ≡ Ok l)
    → JudgedParts (lent_rows words l e) (lent_reads words l e) (lent_chosen words l e) l lent left r → JudgedInto words lent left r
judged-lent {words} {lent} {left} {l} {r} e j =
    judged-whole e (of-lent words l e (λ rows reads chosen. JudgedParts rows reads chosen l lent left r) j)
