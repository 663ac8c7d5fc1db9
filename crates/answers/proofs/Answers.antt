-- The answers of requests that fill, by the checks in their order: the judgement's refusal; of transition k, 15 where it is not
-- there and 18 where it has not V chosen labels; else what follows.
use Prim.Native.Nat.{ℕ, ◌<◌, ◌≤◌}
use mathlib.Core.Path.{◌≡◌, refl}
use mathlib.Core.List.{List}
use lib.ListN.{length}
use borrow.Author.Tests.{le-leb, lt-leb, eq-eqb, ne_eqb}
use Rattle.paper.specs.declared.Refusal.{Refusal}
use Rattle.paper.specs.declared.refusals.Fault.TheVariants.{NoSuchTransition, Uneven}
use Rattle.paper.specs.Refusals.{refusal}
use Rattle.table.specs.declared.Layout.{Layout}
use Rattle.strategy.specs.declared.Accepted.{Accepted}
use Rattle.strategy.specs.Judge.{judged_of}
use Rattle.filling.specs.Filling.{Outcome, unless_short, Fills}
use Rattle.answers.specs.Requests.{key_of, of_transition, outcome_of}
use Rattle.std.specs.Prelude.{Result, Ok, Err}
use Rattle.filling.specs.declared.Length.{Length}

module _ (words : List ℕ) (j : Result Accepted Refusal) (answered : j ≡ judged_of words) where
  pub refused-first : (x : Refusal) (e : j ≡ Err x) (next : Layout → ℕ → Outcome ℕ) (lent : List ℕ)
      → Fills (outcome_of (judged_of words) next) lent lent (Err x)
  unfolding outcome_of
  refused-first x e next lent = rw (← answered, e) (record { answered = refl; left_so = refl })

  pub accepted-first : (a : Accepted) (e : j ≡ Ok a) (next : Layout → ℕ → Outcome ℕ) {lent left : List ℕ} {r : Result Length Refusal}
      → Fills (next a.layout a.transitions) lent left r → Fills (outcome_of (judged_of words) next) lent left r
  unfolding outcome_of
  accepted-first a e next f = rw (← answered, e) f

module _ (what : List ℕ → Layout → ℕ → List ℕ) (words : List ℕ) (k : ℕ) (l : Layout) (count : ℕ) (lent : List ℕ) where
  pub absent : {r : Result Length Refusal} → count ≤ k → r ≡ Err (refusal NoSuchTransition count)
      → Fills (of_transition what words k (length lent) l count) lent lent r
  unfolding of_transition
  absent h e = rw (le-leb count k h) (record { answered = e; left_so = refl })

  module _ (there : k < count) (n : ℕ) (many : n ≡ length (key_of words l k)) where
    pub not-whole : {r : Result Length Refusal} → (n ≡ l.variables → ⊥) → r ≡ Err (refusal Uneven k)
        → Fills (of_transition what words k (length lent) l count) lent lent r
    unfolding of_transition
    not-whole h e = rw (lt-leb count k there, ← many, ne_eqb n l.variables h) (record { answered = e; left_so = refl })

    pub whole : {left : List ℕ} {r : Result Length Refusal} → n ≡ l.variables → Fills (unless_short (length lent) (what words l k)) lent left r
        → Fills (of_transition what words k (length lent) l count) lent left r
    unfolding of_transition
    whole h f = rw (lt-leb count k there, ← many, eq-eqb n l.variables h) f
