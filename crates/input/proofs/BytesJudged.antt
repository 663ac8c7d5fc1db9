-- The judgement of bytes: 17 where their number is odd, else that of their words.
use Prim.Native.Nat.{ℕ, ◌/◌, ◌%◌}
use mathlib.Core.Path.{◌≡◌}
use mathlib.Core.List.{List}
use lib.ListN.{length}
use borrow.Author.Tests.{eq-eqb, ne_eqb}
use Rattle.paper.specs.declared.Refusal.{Refusal}
use Rattle.paper.specs.declared.refusals.Fault.TheVariants.{OddBytes}
use Rattle.paper.specs.Refusals.{refusal}
use Rattle.strategy.specs.Judge.{order_left, JudgedInto}
use Rattle.input.specs.Bytes.{words_of, judged_bytes, order_left_of, JudgedBytes}
use Rattle.std.specs.Prelude.{Result, Err}
use Rattle.strategy.specs.declared.Accepted.{Accepted}

module _ {bytes lent : List ℕ} where
  pub odd-judged : {x : Refusal} → length bytes % 2 ≡ 1 → x ≡ refusal OddBytes (length bytes / 2) → JudgedBytes bytes lent lent (Err x)
  unfolding judged_bytes order_left_of
  odd-judged odd e = let is_odd = eq-eqb (length bytes % 2) 1 odd in rw e (record { answered = rw is_odd; left_so = rw is_odd })

  pub even-judged : {words left : List ℕ} {r : Result Accepted Refusal} → words ≡ words_of bytes → (length bytes % 2 ≡ 1 → ⊥) → JudgedInto words lent left r
      → JudgedBytes bytes lent left r
  unfolding judged_bytes order_left order_left_of
  even-judged {left = left} {r} are even i =
      let not-odd = ne_eqb (length bytes % 2) 1 even in
      let j : JudgedInto (words_of bytes) lent left r = rw are at i in
      record { answered = rw not-odd j.answered; left_so = rw not-odd j.left_so }
