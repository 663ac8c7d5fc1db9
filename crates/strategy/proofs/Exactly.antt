-- Which words are accepted (specs/Judge.antt, `AcceptedExactly`): sound words whose judgement is the paper's acceptance, which is
-- given exactly to an assignment strategy with at most 65,535 transitions.
use Prim.Native.Nat.{ℕ}
use native.Mathlib.Omega.{arith}
use mathlib.Core.Path.{◌≡◌, refl, sym, ap, subst, ◌∙◌}
use mathlib.Core.List.{List}
use lib.ListN.{length}
use Rattle.paper.specs.Transition.{keys}
use Rattle.paper.specs.Judgement.{Judgement, accepted, judge}
use Rattle.paper.proofs.Judgement as Paper
use Rattle.table.specs.declared.Layout.{Layout}
use Rattle.table.specs.Table.{checked}
use Rattle.written.specs.Tables.{formula_in}
use Rattle.strategy.specs.Verdict.{accepted_with, as_judged}
use Rattle.strategy.proofs.Verdicts.{accepting}
use Rattle.strategy.specs.Judge.{proposal_in, judged_as, judged_of, AcceptedSo, AcceptedExactly}
use Rattle.std.specs.Prelude.{Result, Ok, Err}
use Rattle.paper.specs.declared.Refusal.{Refusal}

module _ (words : List ℕ) (l : Layout) where
  abbrev judgement : Judgement
  judgement = judge l.variables (formula_in words l) (proposal_in words l)

  abbrev many : ℕ
  many = length (keys (formula_in words l) (proposal_in words l))

  same_count : {v n s t a b c d : ℕ} → judgement ≡ accepted v n s t → judgement ≡ accepted a b c d → t ≡ d
  same_count p q = cc

  so : {v n s t : ℕ} → checked words ≡ Ok l → judgement ≡ accepted v n s t → AcceptedSo words l t
  so e j =
      let whole = Paper.accepted-only-so l.variables (formula_in words l) (proposal_in words l) _ _ _ _ j in
      let (strategy, few) = (Paper.accepted-exactly l.variables (formula_in words l) (proposal_in words l)).0 whole in
      record { sound = e; strategy = strategy; count = same_count j whole; few = few }

  accepts : {t : ℕ} → AcceptedSo words l t → judged_of words ≡ accepted_with l t
  unfolding judged_of
  accepts a =
      ap (judged_as words) a.sound
      ∙ ap (as_judged l) ((Paper.accepted-exactly l.variables (formula_in words l) (proposal_in words l)).1 (a.strategy, a.few))
      ∙ ap (accepted_with l) (sym a.count)

pub accepted-so : (words : List ℕ) (l : Layout) (t : ℕ) → judged_of words ≡ accepted_with l t → AcceptedSo words l t
unfolding judged_of
accepted-so words l t h = go (checked words) refl h
  where
    go : (found : Result Layout Refusal) → checked words ≡ found → judged_as words found ≡ accepted_with l t → AcceptedSo words l t
    go (Ok m) e q =
        let (same, v, n, s, j) = accepting m l (judgement words m) q in
        subst (λ x. AcceptedSo words x t) same (so words m e j)
    go (Err x) e q = let z : ◌≡◌ {A = ℕ} 0 1 = cc in absurd (omega arith)

pub accepted-exactly : (words : List ℕ) (l : Layout) (t : ℕ) → AcceptedExactly words l t
accepted-exactly words l t = (accepted-so words l t, accepts words l)
