-- What a request fills is S words, N bytes or V words, so at most 4,096.
use Prim.Native.Nat.{ℕ, ◌<◌, ◌≤◌}
use native.Mathlib.Omega.{arith}
use mathlib.Core.Path.{◌≡◌, refl, ◌∙◌}
use mathlib.Core.Bool.{Bool, true, false, cond}
use mathlib.Core.List.{List, map}
use lib.Dec.{eqb, ltb, leb}
use lib.ListN.{length, length-map}
use borrow.Author.Tests.{leb-false}
use Rattle.paper.specs.Limits.{most_rows}
use Rattle.paper.specs.declared.refusals.Fault.TheVariants.{NoSuchTransition, OutTooShort, Uneven}
use Rattle.paper.specs.Refusals.{refusal}
use Rattle.paper.specs.declared.Label.{Label}
use Rattle.table.specs.declared.Layout.{Layout}
use Rattle.strategy.specs.declared.Accepted.{Accepted}
use Rattle.strategy.specs.Judge.{judged_of}
use Rattle.filling.specs.Filling.{Outcome, refuses, fills, unless_short, filled_of}
use Rattle.answers.specs.Requests.{reported, key_of, kept_marks, assigned_of, unless_absent, order_outcome, of_transition}
use Rattle.answers.specs.Inside.Judged.{FitFilled}
use Rattle.answers.specs.Requests.{transition_outcome, assignments_outcome, outcome_of, order_of, transition_of, assignments_of}
use Rattle.answers.specs.Inside.Judged.{AcceptedAs}
use Rattle.answers.proofs.Accepted.{is-understood}
use Rattle.answers.proofs.Keeping.{amounts}
use Rattle.std.specs.Prelude.{Result, Ok, Err}
use Rattle.paper.specs.declared.Refusal.{Refusal}

-- what is filled is as long as what is asked for
fit-short : (room : ℕ) (ws : List ℕ) → length ws ≤ most_rows → FitFilled (filled_of (unless_short room ws))
fit-short room ws h = go (ltb room (length ws))
  where
    go : (t : Bool) → FitFilled (filled_of (cond t (refuses (refusal OutTooShort (length ws))) (fills ws)))
    go true = tt
    go false = h

fit-absent : (k count #V : ℕ) (key : List Label) (next : Outcome ℕ) → (k < count → FitFilled (filled_of next))
    → FitFilled (filled_of (unless_absent k count #V key next))
fit-absent k count #V key next fits = go (leb count k) refl (eqb (length key) #V)
  where
    go : (t : Bool) → leb count k ≡ t → (w : Bool)
        → FitFilled (filled_of (cond t (refuses (refusal NoSuchTransition count)) (cond w next (refuses (refusal Uneven k)))))
    go true e w = tt
    go false e true = let h = leb-false count k e in fits (omega arith)
    go false e false = tt

module _ (words : List ℕ) where
  fit-accepted : (next : Layout → ℕ → Outcome ℕ) → ((a : Accepted) → AcceptedAs words a → FitFilled (filled_of (next a.layout a.transitions)))
      → FitFilled (filled_of (outcome_of (judged_of words) next))
  unfolding outcome_of
  fit-accepted next fits = go (judged_of words) refl
    where
      go : (j : Result Accepted Refusal) → judged_of words ≡ j → FitFilled (filled_of (outcome_of j next))
      go (Err r) e = tt
      go (Ok a) e = fits a e

  pub order-fits : (room : ℕ) → FitFilled (filled_of (order_of words room))
  order-fits room =
      fit-accepted (order_outcome words room)
      (λ a e. let most = (is-understood words a e).at_most_chosen in
      let placed = reported words a.layout in
      let many = length-map placed (λ (i : Label). i.0) ∙ (amounts words a e).order_is in
      fit-short room (map (λ (i : Label). i.0) placed) (omega arith))

  pub transition-fits : (k room : ℕ) → FitFilled (filled_of (transition_of words k room))
  unfolding of_transition
  transition-fits k room =
      fit-accepted (transition_outcome words k room)
      (λ a e. let most = (is-understood words a e).at_most_rows in
      let l = a.layout in
      let many = (amounts words a e).transition_is k in
      fit-absent k a.transitions l.variables (key_of words l k) (unless_short room (kept_marks words l k))
      (λ h. fit-short room (kept_marks words l k) (omega arith)))

  pub assignments-fit : (k room : ℕ) → FitFilled (filled_of (assignments_of words k room))
  unfolding of_transition
  assignments-fit k room =
      fit-accepted (assignments_outcome words k room)
      (λ a e. let most = (is-understood words a e).at_most_variables in
      let l = a.layout in
      fit-absent k a.transitions l.variables (key_of words l k) (unless_short room (assigned_of words l k))
      (λ h. let many = (amounts words a e).assignments_are k h in fit-short room (assigned_of words l k) (omega arith)))
