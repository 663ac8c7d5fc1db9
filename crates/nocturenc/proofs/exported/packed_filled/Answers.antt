-- The answer is packed case by case.
use mathlib.Core.Path.{sym, subst}
use Rattle.answers.specs.Inside.Judged.{FitFilled}
use Rattle.nocturenc.specs.Packed.{ReadFilling}
use Rattle.nocturenc.proofs.Reading.{read-filled, read-unfilled}
use Rattle.nocturenc.proofs.exported.packed_filled.Goals as goal

pub returns-in-Ok-clause-value : goal.returns-in-Ok-clause-value
returns-in-Ok-clause-value c =
    let e = c.in-Ok.is in
    rw e (read-filled _ (subst FitFilled e c.requires)).0

pub returns-in-Ok-clause-read_filling : goal.returns-in-Ok-clause-read_filling
returns-in-Ok-clause-read_filling c =
    let e = c.in-Ok.is in
    subst (λ f. ReadFilling f c.in-Ok.l.count) (sym e) (read-filled _ (subst FitFilled e c.requires)).1

pub returns-in-Err-clause-value : goal.returns-in-Err-clause-value
returns-in-Err-clause-value c =
    let p = c.packed_refusal.ensures in
    rw c.in-Err.is (read-unfilled _ _ p.value p.read_refusal).0

pub returns-in-Err-clause-read_filling : goal.returns-in-Err-clause-read_filling
returns-in-Err-clause-read_filling c =
    let p = c.packed_refusal.ensures in
    subst (λ f. ReadFilling f c.packed_refusal.result) (sym c.in-Err.is) (read-unfilled _ _ p.value p.read_refusal).1
