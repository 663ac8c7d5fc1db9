-- Demand 2, the judgement (specs/Demands.antt, `JudgedExactly`): an acceptance is read from the answer exactly if the words write a
-- table that is to be accepted, and its counts are those of that table.
use Prim.Native.Nat.{ℕ, ◌≤◌}
use mathlib.Core.Path.{◌≡◌, refl, sym, ap, subst, ◌∙◌}
use mathlib.Core.Bool.{false≢true}
use mathlib.Core.List.{List}
use lib.ListN.{length, length-map}
use Rattle.paper.specs.Limits.{most_transitions}
use Rattle.paper.specs.Formula.{ℓ}
use Rattle.paper.specs.Strategy.{Strategy}
use Rattle.paper.specs.Transition.{keys}
use Rattle.table.specs.declared.Layout.{Layout}
use Rattle.table.specs.Table.{chosen_in}
use Rattle.written.specs.Written.{Table, Within, written}
use Rattle.written.specs.Tables.{table_in, layout_of}
use Rattle.written.proofs.Tables.{one_table}
use Rattle.strategy.specs.declared.Accepted.{Accepted}
use Rattle.strategy.specs.Judge.{judged_of, AcceptedSo}
use Rattle.strategy.proofs.Exactly.{accepted-so, accepted-exactly}
use Rattle.answers.specs.Requests.{judge_of, judge_answer}
use Rattle.answers.proofs.Accepted.{is-sound, is-understood, is-strategy, count_is}
use Rattle.nocturenc.specs.Packed.{AnswerPacked}
use Rattle.demands.specs.Allowed.{refusal_number}
use Rattle.demands.specs.Demands.{JudgeGives, Acceptable, Counts, JudgedExactly}
use Rattle.demands.proofs.RefusalNumbers.{refused-number}
use Rattle.std.specs.Prelude.{Result, Ok, Err}
use Rattle.paper.specs.declared.Refusal.{Refusal}

-- what an accepted answer says of the judgement
pub is-accepted : (words : List ℕ) (r : ℕ) → AnswerPacked (judge_of words) r → refusal_number r ≡ 0 → (a : Accepted) × (judged_of words ≡ Ok a)
unfolding judge_of
is-accepted words r p z = go (judged_of words) refl p
  where
    go : (j : Result Accepted Refusal) → judged_of words ≡ j → AnswerPacked (judge_answer j) r → (a : Accepted) × (judged_of words ≡ Ok a)
    go (Ok a) e p = (a, e)
    go (Err x) e p = absurd (false≢true (subst JudgeGives (sym p.read_so.number_is ∙ z) (refused-number words x e).0))

abbrev layout_or : Result Layout Refusal → Layout → Layout
layout_or (Ok l) other = l
layout_or (Err x) other = other

module _ (words : List ℕ) (a : Accepted) (e : judged_of words ≡ Ok a) where
  -- the table that accepted words write is the one read from them
  pub table_is : (t : Table) → Within t → words ≡ written t → table_in words a.layout ≡ t
  table_is t within writes =
      let (sound, read) = one_table words t within writes in
      ap (λ l. table_in words l) (ap (λ c. layout_or c a.layout) (sym (is-sound words a e) ∙ sound)) ∙ read

  pub acceptable : Acceptable words (table_in words a.layout)
  acceptable =
      let known = is-understood words a e in record {
        within = known.within;
        writes = known.words_are;
        strategy = rw known.names_there (is-strategy words a e);
        few = (accepted-so words a.layout a.transitions e).few;
      }

  module _ (r : ℕ) (p : AnswerPacked (judge_of words) r) where
    accepting : AnswerPacked (judge_answer (Ok a)) r
    unfolding judge_of
    accepting = subst (λ j. AnswerPacked (judge_answer j) r) e p

    no_refusal : refusal_number r ≡ 0
    no_refusal = accepting.read_so.no_refusal

    -- what C reads are its counts
    pub counts-read : Counts (table_in words a.layout) r
    counts-read =
        let known = is-understood words a e in
        let read = accepting.read_so in record {
          variables = read.variables_are ∙ sym known.names_there;
          rows = read.rows_are ∙ sym known.size_is;
          chosen = read.chosen_are ∙ sym (length-map (chosen_in words a.layout) ℓ ∙ known.chosen_there);
          transitions = read.transitions_are ∙ count_is words a e;
        }

-- words that write a table that is to be accepted are accepted
accepts : (words : List ℕ) (t : Table) → Acceptable words t → (a : Accepted) × (judged_of words ≡ Ok a)
accepts words t h =
    let (sound, read) = one_table words t h.within h.writes in
    let so : AcceptedSo words (layout_of t) _ = record {
      sound = sound;
      strategy = subst (λ (u : Table). Strategy (length t.names) u.formula u.strategy) (sym read) h.strategy;
      count = refl;
      few = subst (λ (u : Table). length (keys u.formula u.strategy) ≤ most_transitions) (sym read) h.few;
    } in (_, (accepted-exactly words (layout_of t) _).1 so)

pub judged-exactly : (words : List ℕ) (r : ℕ) → AnswerPacked (judge_of words) r → JudgedExactly words r
judged-exactly words r p = record {
  accepted = (
    λ z. let (a, e) = is-accepted words r p z in (table_in words a.layout, acceptable words a e),
    λ (t, h). let (a, e) = accepts words t h in no_refusal words a e r p,
  );
  counts = λ t h. let (a, e) = accepts words t h in subst (λ u. Counts u r) (table_is words a e t h.within h.writes) (counts-read words a e r p);
}
