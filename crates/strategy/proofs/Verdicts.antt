-- An answer that accepts comes from a judgement that does, and the count over the rows answers as the number of keys does.
use Prim.Native.Nat.{ℕ, ◌<◌, ◌≤◌}
use native.Mathlib.Omega.{arith}
use mathlib.Core.Path.{◌≡◌, refl, sym, ap}
use mathlib.Core.Bool.{Bool, true, false, cond}
use lib.Dec.{ltb}
use borrow.Author.Tests.{ltb-false, lt-ltb, le-ltb}
use Rattle.paper.specs.declared.refusals.Fault.TheVariants.{TooMany}
use Rattle.paper.specs.Refusals.{refusal}
use Rattle.paper.specs.Limits.{most_transitions}
use Rattle.paper.specs.Judgement.{Judgement, accepted, refused}
use Rattle.table.specs.declared.Layout.{Layout}
use Rattle.table.specs.Table.{layout}
use Rattle.strategy.specs.Verdict.{accepted_with, refused_at, as_judged}
use Rattle.strategy.specs.Inside.Checks.{counted_as}
use Rattle.std.specs.Prelude.{Result, Ok, Err}
use Rattle.paper.specs.declared.Refusal.{Refusal}
use Rattle.strategy.specs.declared.Accepted.{Accepted}

abbrev layout_in : Result Accepted Refusal → Layout
layout_in (Ok a) = a.layout
layout_in (Err x) = layout 0 0 0 0

abbrev transitions_in : Result Accepted Refusal → ℕ
transitions_in (Ok a) = a.transitions
transitions_in (Err x) = 0

pub accepting : (l m : Layout) (j : Judgement) {t : ℕ} → as_judged l j ≡ accepted_with m t → (l ≡ m) × (v n s : ℕ) × (j ≡ accepted v n s t)
accepting l m (accepted v n s t) e = (ap layout_in e, v, n, s, ap (λ k. accepted v n s k) (ap transitions_in e))
accepting l m (refused r) e = let z : ◌≡◌ {A = ℕ} 0 1 = cc in absurd (omega arith)

-- 14: the count t over the rows stands for the number of keys m
pub counted-answer : (l : Layout) (v n s m t : ℕ) → ltb most_transitions t ≡ ltb most_transitions m → (t ≤ most_transitions → t ≡ m)
    → as_judged l (cond (ltb most_transitions m) (refused (refusal TooMany 0)) (accepted v n s m)) ≡ counted_as l t
unfolding counted_as
counted-answer l v n s m t past same = rw (← past) (by (ltb most_transitions t) refl)
  where
    by : (b : Bool) → ltb most_transitions t ≡ b
        → as_judged l (cond b (refused (refusal TooMany 0)) (accepted v n s m)) ≡ cond b (refused_at TooMany 0) (accepted_with l t)
    by true e = refl
    by false e = ap (accepted_with l) (sym (same (ltb-false most_transitions t e)))

module _ (l : Layout) {m n : ℕ} (e : n ≡ m) where
  pub counted-past : {r : Result Accepted Refusal} → most_transitions < n → r ≡ refused_at TooMany 0 → r ≡ counted_as l m
  unfolding counted_as
  counted-past h q = rw (← e, lt-ltb most_transitions n h) q

  pub counted-fits : n ≤ most_transitions → accepted_with l n ≡ counted_as l m
  unfolding counted_as
  counted-fits h = rw (← e, le-ltb most_transitions n h)
