-- The counts of an accepted table fit their bits, and the answer is packed case by case.
use mathlib.Core.Path.{sym, subst, ◌∙◌}
use Rattle.nocturenc.specs.Packed.{AnswerPacked}
use Rattle.answers.proofs.Accepted.{counts-fit}
use Rattle.nocturenc.proofs.Reading.{read-counts, read-refused}
use Rattle.nocturenc.proofs.exported.nocturenc_judge.Goals as goal

pub packed_counts-requires : goal.packed_counts-requires
packed_counts-requires c = counts-fit _ _ (sym c.judge.ensures ∙ c.in-Ok.is)

pub returns-in-Ok : goal.returns-in-Ok
returns-in-Ok c =
    let e = sym c.in-Ok.is ∙ c.judge.ensures in
    let n = c.packed_counts.result in
    subst (λ a. AnswerPacked a n) e (read-counts _ n (counts-fit _ _ (sym e)) c.packed_counts.ensures)

pub returns-in-Err : goal.returns-in-Err
returns-in-Err c =
    let e = sym c.in-Err.is ∙ c.judge.ensures in
    let n = c.packed_refusal.result in
    let p = c.packed_refusal.ensures in
    subst (λ a. AnswerPacked a n) e (read-refused _ n p.value p.read_refusal)
