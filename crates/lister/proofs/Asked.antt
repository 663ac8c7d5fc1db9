-- What listing bytes asks for is there: their words and their judgement, and of accepted ones their order, the bounds of their counts, what
-- their lines are worked out from, and room.
use Prim.Native.Nat.{ℕ, ◌+◌, ◌*◌, ◌/◌, ◌^◌, ◌<◌, ◌≤◌}
use native.Mathlib.Omega.{arith}
use mathlib.Core.Path.{◌≡◌, refl, sym, ap, subst, ◌∙◌}
use mathlib.Core.Bool.{Bool, true, false, cond}
use mathlib.Core.List.{List, ◌++◌}
use lib.ListN.{length, take, length-map, length-take}
use lib.Seq.{length-take-le}
use Rattle.paper.specs.declared.refusals.Fault.TheVariants.{OddBytes}
use Rattle.paper.specs.Limits.{slots}
use Rattle.paper.specs.declared.Refusal.{Refusal}
use Rattle.entries.specs.Front.{in_front}
use Rattle.strategy.specs.declared.Accepted.{Accepted}
use Rattle.strategy.specs.Verdict.{refused_at}
use Rattle.strategy.specs.Judge.{left_by, order_in, judged_of}
use Rattle.input.specs.Bytes.{words_of, are_odd, judged_bytes, order_left_of, JudgedBytes}
use Rattle.answers.specs.Requests.{reported}
use Rattle.answers.specs.Inside.Judged.{AcceptedAs, Ordered}
use Rattle.answers.proofs.Accepted.{is-understood, few-transitions, few-chosen, reported-length, order-in-front, front-as-long}
use Rattle.lister.specs.Listing.{first_of, transitions_of, lines_below, listing_of}
use Rattle.lister.specs.Inside.Steps.{longest}
use Rattle.std.specs.Prelude.{Result, Ok, Err}

-- what the judgement of bytes leaves
module _ {bytes order₀ order : List ℕ} {r : Result Accepted Refusal} (j : JudgedBytes bytes order₀ order r) where
  -- accepted bytes are even in number, so their words are accepted
  accepted-words : (a : Accepted) → judged_bytes bytes ≡ Ok a → judged_of (words_of bytes) ≡ Ok a
  unfolding judged_bytes
  accepted-words a e = go (are_odd bytes) e
    where
      go : (odd : Bool) → cond odd (refused_at OddBytes (length bytes / 2)) (judged_of (words_of bytes)) ≡ Ok a
          → judged_of (words_of bytes) ≡ Ok a
      go true q = let z : ◌≡◌ {A = ℕ} 0 1 = cc in absurd (omega arith)
      go false q = q

  stands : (a : Accepted) → judged_bytes bytes ≡ Ok a → order ≡ in_front (order_in (words_of bytes) a.layout) order₀
  unfolding order_left_of
  stands a e = j.left_so ∙ ap (λ r. left_by r (order_in (words_of bytes)) order₀) e

  -- of the words of the bytes
  module _ {words : List ℕ} (are : words ≡ words_of bytes) where
    pub so-judged : {a : Accepted} → r ≡ Ok a → AcceptedAs words a
    so-judged {a} e = rw are (accepted-words a (sym j.answered ∙ e))

    pub so-ordered : {a : Accepted} → r ≡ Ok a → Ordered words a order
    so-ordered {a} e =
        let accepts = sym j.answered ∙ e in
        rw are (order-in-front (words_of bytes) order₀ order a (accepted-words a accepts) (stands a accepts))

    pub listing-so : {i : Result Accepted Refusal} → r ≡ i → first_of words i ++ lines_below words i (transitions_of i) ≡ listing_of bytes
    listing-so {i} e =
        subst (λ k. first_of words k ++ lines_below words k (transitions_of k) ≡ listing_of bytes) (sym j.answered ∙ e) (rw are refl)

  pub order-long : length order₀ ≡ slots → length order ≡ slots
  unfolding order_left_of
  order-long n = go (judged_bytes bytes) refl
    where
      go : (i : Result Accepted Refusal) → judged_bytes bytes ≡ i → length order ≡ slots
      go (Err x) e = ap length (j.left_so ∙ ap (λ r. left_by r (order_in (words_of bytes)) order₀) e) ∙ n
      go (Ok a) e = front-as-long (words_of bytes) order₀ order a (accepted-words a e) (stands a e) n

-- the counts fit, and the order is there
module _ {words order : List ℕ} {a : Accepted} (o : Ordered words a order) where
  pub counts-fit : (a.layout.variables < 2 ^ 32) × (a.layout.rows < 2 ^ 32) × (a.layout.chosen < 2 ^ 32) × (a.transitions < 2 ^ 32)
  counts-fit =
      let u = is-understood words a o.accepted in
      let chosen = few-chosen words a o.accepted in
      let transitions = few-transitions words a o.accepted in
      (omega (arith, u.at_most_variables), omega (arith, u.at_most_rows), omega arith, omega arith)

  pub order-there : a.layout.chosen ≤ length order
  order-there =
      let n = ap length o.is_in_front ∙ length-map (reported words a.layout) (λ i. i.0) ∙ reported-length words a o.accepted in
      omega (arith, simp length-take at n)

  -- there is room for the second line behind the first
  pub order-fits : (at room : ℕ) → at ≤ 53 → room ≡ 65536 → at + (6 + 6 * length (take a.layout.chosen order)) ≤ room
  order-fits at room low n =
      let m = length-take-le a.layout.chosen order order-there in
      let few = few-chosen words a o.accepted in
      omega arith

pub line-room : (words : List ℕ) (a : Accepted) → AcceptedAs words a → (room : ℕ) → room ≡ 65536 → longest a.layout ≤ room
line-room words a e room n = let u = is-understood words a e in omega (arith, u.at_most_variables, u.at_most_rows)
