-- What a request does to a lent slice (specs/Demands.antt, `Fills` and `Refuses`), from the outcome that its contract gives it.
use Prim.Native.Nat.{ℕ, ◌<◌, ◌≤◌}
use mathlib.Core.Path.{◌≡◌, sym, ap, subst, ◌∙◌}
use mathlib.Core.List.{List, map}
use lib.ListN.{length, take, drop}
use lib.Seq.{take-append_seam, drop-append_seam}
use borrow.Author.Tests.{le-ltb, lt-ltb, le-leb, lt-leb, eq-eqb}
use Rattle.paper.specs.declared.refusals.Fault.TheVariants.{NoSuchTransition, OutTooShort}
use Rattle.paper.specs.declared.refusals.Fault.{Fault}
use Rattle.paper.specs.Refusals.{refusal, fault_number}
use Rattle.paper.specs.declared.Label.{Label}
use Rattle.table.specs.declared.Layout.{Layout}
use Rattle.strategy.specs.declared.Accepted.{Accepted}
use Rattle.strategy.specs.Judge.{judged_of}
use Rattle.filling.specs.Filling.{Outcome, refuses, fills, unless_short}
use Rattle.answers.specs.Requests.{key_of, reported, unless_absent, outcome_of, of_transition, order_of, order_outcome}
use Rattle.answers.proofs.Keeping.{amounts}
use Rattle.nocturenc.specs.Packed.{FillsPacked, packed_filled}
use Rattle.demands.specs.Allowed.{refusal_number, refusal_place}
use Rattle.std.specs.Prelude.{Ok}

module _ {lent left : List ℕ} {s : ℕ} (o : Outcome ℕ) (f : FillsPacked o lent left s) where
  pub fills-front : (ws : List ℕ) (n : ℕ) (P : List ℕ → Type 0) → o ≡ fills ws → n ≡ length ws → P ws
      → (s ≡ n) × P (take n left) × (drop n left ≡ drop n lent)
  unfolding packed_filled
  fills-front ws n P e many p =
      let g : FillsPacked (fills ws) lent left s = subst (λ x. FillsPacked x lent left s) e f in (
        g.answered ∙ sym many,
        subst P (sym (ap (λ i. take i left) many ∙ ap (take (length ws)) g.left_so ∙ take-append_seam ws (drop (length ws) lent))) p,
        ap (λ i. drop i left) many ∙ ap (drop (length ws)) g.left_so ∙ drop-append_seam ws (drop (length ws) lent) ∙ ap (λ i. drop i lent) (sym many),
      )

  pub refuses-so : (fault : Fault) (place n : ℕ) → o ≡ refuses (refusal fault place) → n ≡ place
      → (refusal_number s ≡ fault_number fault) × (refusal_place s ≡ n) × (left ≡ lent)
  refuses-so fault place n e same =
      let g : FillsPacked (refuses (refusal fault place)) lent left s = subst (λ x. FillsPacked x lent left s) e f in
      (g.read_so.number_is, g.read_so.place_is ∙ sym same, g.left_so)

-- Accepted words: the outcomes of the requests.
module _ (words : List ℕ) (a : Accepted) (e : judged_of words ≡ Ok a) where
  abbrev l : Layout
  l = a.layout

  enough : (room : ℕ) (ws : List ℕ) → length ws ≤ room → unless_short room ws ≡ fills ws
  enough room ws h = rw (le-ltb room (length ws) h)

  short : (room : ℕ) (ws : List ℕ) → room < length ws → unless_short room ws ≡ refuses (refusal OutTooShort (length ws))
  short room ws h = rw (lt-ltb room (length ws) h)

  abbrev order : List ℕ
  order = map (λ (i : Label). i.0) (reported words l)

  pub order-given : (room : ℕ) → length order ≤ room → order_of words room ≡ fills order
  unfolding outcome_of
  order-given room h = ap (λ j. outcome_of j (order_outcome words room)) e ∙ enough room order h

  pub order-short : (room : ℕ) → room < length order → order_of words room ≡ refuses (refusal OutTooShort (length order))
  unfolding outcome_of
  order-short room h = ap (λ j. outcome_of j (order_outcome words room)) e ∙ short room order h

  -- what is asked of transition k: 15 first, then 18, which no accepted table meets, then 16
  module _ (what : List ℕ → Layout → ℕ → List ℕ) (k room : ℕ) where
    abbrev outcome : Outcome ℕ
    outcome = outcome_of (judged_of words) (of_transition what words k room)

    decided : outcome ≡ unless_absent k a.transitions l.variables (key_of words l k) (unless_short room (what words l k))
    unfolding outcome_of of_transition
    decided = ap (λ j. outcome_of j (of_transition what words k room)) e

    present : k < a.transitions → outcome ≡ unless_short room (what words l k)
    present h = decided ∙ rw (lt-leb a.transitions k h, eq-eqb (length (key_of words l k)) l.variables ((amounts words a e).each_whole k h))

    pub transition-given : k < a.transitions → length (what words l k) ≤ room → outcome ≡ fills (what words l k)
    transition-given h g = present h ∙ enough room (what words l k) g

    pub transition-short : k < a.transitions → room < length (what words l k) → outcome ≡ refuses (refusal OutTooShort (length (what words l k)))
    transition-short h g = present h ∙ short room (what words l k) g

    pub transition-absent : a.transitions ≤ k → outcome ≡ refuses (refusal NoSuchTransition a.transitions)
    transition-absent h = decided ∙ rw (le-leb a.transitions k h)
