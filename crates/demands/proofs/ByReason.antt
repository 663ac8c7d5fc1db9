-- Each library function whose answer can be a refusal refuses for a reason, whatever its contract allows (specs/Reasons.antt).
use mathlib.Core.Path.{refl, sym, subst}
use mir.Syntax.{Dict}
use denote.RattleType.{RattleType}
use denote.Param.Laws.{Laws, IsCopy}
use Rattle.std.specs.declared.clone.Clone.{Ghosts}
use Rattle.cover.specs.declared.Uncovered.{Uncovered}
use Rattle.cover.specs.declared.Uncovered.TheVariants.{Missed, Doubled}
use Rattle.cover.specs.Inside.Masks.{refusal_of}
use Rattle.sections.proofs.Cursor as cursor
use Rattle.table.proofs as table
use Rattle.reader.proofs.plain as plain
use Rattle.filling.proofs as filling
use Rattle.cover.proofs.RefusalFromUncovered as uncovered
use Rattle.strategy.proofs as strategy
use Rattle.input.proofs.judging as judging
use Rattle.answers.proofs.judged.AcceptedTable as judged
use Rattle.nocturenc.proofs.requests as requests
use Rattle.demands.specs.Reasons.{ForReason, ByReason, Answers}
use Rattle.demands.proofs.Reasons.{reasons}

pub sections-cursor-open : Answers cursor.open.Kinds.ps cursor.open.Kinds.r (λ κs. ByReason) cursor.open.Reads.Pre cursor.open.Reads.Post
sections-cursor-open κs a pre x v p = subst ByReason (sym p) (reasons.section _ _ _ _ _)

pub sections-cursor-variables :
    Answers cursor.variables.Kinds.ps cursor.variables.Kinds.r (λ κs. ByReason) cursor.variables.Reads.Pre cursor.variables.Reads.Post
sections-cursor-variables κs a pre x v p = subst ByReason (sym p) (reasons.variables _ _)

pub sections-cursor-reads : Answers cursor.reads.Kinds.ps cursor.reads.Kinds.r (λ κs. ByReason) cursor.reads.Reads.Pre cursor.reads.Reads.Post
sections-cursor-reads κs a pre x v p = subst ByReason (sym p) (reasons.reads _ _)

pub sections-cursor-rows : Answers cursor.rows.Kinds.ps cursor.rows.Kinds.r (λ κs. ByReason) cursor.rows.Reads.Pre cursor.rows.Reads.Post
sections-cursor-rows κs a pre x v p = subst ByReason (sym p) (reasons.rows _ _ _)

pub sections-cursor-strategy :
    Answers cursor.strategy.Kinds.ps cursor.strategy.Kinds.r (λ κs. ByReason) cursor.strategy.Reads.Pre cursor.strategy.Reads.Post
sections-cursor-strategy κs a pre x v p = subst ByReason (sym p) (reasons.strategy _ _)

pub sections-cursor-end : Answers cursor.end.Kinds.ps cursor.end.Kinds.r (λ κs. ByReason) cursor.end.Reads.Pre cursor.end.Reads.Post
sections-cursor-end κs a pre x v p = subst ByReason (sym p) (reasons.end _ _)

pub table-check : Answers table.check.Kinds.ps table.check.Kinds.r (λ κs. ByReason) table.check.Reads.Pre table.check.Reads.Post
table-check κs a pre x v p = subst ByReason (sym p) (reasons.table _)

pub reader-behind-rows :
    Answers plain.behind_rows.Kinds.ps plain.behind_rows.Kinds.r (λ κs. ByReason) plain.behind_rows.Reads.Pre plain.behind_rows.Reads.Post
reader-behind-rows κs a pre x v p = subst ByReason (sym p) (reasons.reader _)

pub filling-fill : (T : RattleType) (L : Laws T) (C : IsCopy T) (K : Ghosts T.Denot) (D : Dict)
    → Answers (filling.fill.Kinds.ps T L C) (filling.fill.Kinds.r T L C) (λ κs. ByReason)
    (filling.fill.Reads.Pre T L C K D) (filling.fill.Reads.Post T L C K D)
filling-fill T L C K D κs a pre x v p = reasons.fill _ _ _ _ p

pub cover-refusalfromuncovered-from :
    Answers uncovered.from.Kinds.ps uncovered.from.Kinds.r (λ κs. ForReason) uncovered.from.Reads.Pre uncovered.from.Reads.Post
cover-refusalfromuncovered-from κs a pre x v p = subst ForReason (sym p) (either a.0)
  where
    either : (u : Uncovered) → ForReason (refusal_of u)
    either (Missed v) = refl
    either (Doubled v) = refl

pub strategy-judge : Answers strategy.judge.Kinds.ps strategy.judge.Kinds.r (λ κs. ByReason) strategy.judge.Reads.Pre strategy.judge.Reads.Post
strategy-judge κs a pre x v p = subst ByReason (sym p) (reasons.judgement _)

pub strategy-judge-into :
    Answers strategy.judge_into.Kinds.ps strategy.judge_into.Kinds.r (λ κs. ByReason) strategy.judge_into.Reads.Pre strategy.judge_into.Reads.Post
strategy-judge-into κs a pre x v p = subst ByReason (sym p.answered) (reasons.judgement _)

pub input-judge-bytes :
    Answers judging.judge_bytes.Kinds.ps judging.judge_bytes.Kinds.r (λ κs. ByReason) judging.judge_bytes.Reads.Pre judging.judge_bytes.Reads.Post
input-judge-bytes κs a pre x v p = subst ByReason (sym p.answered) (reasons.of_bytes _)

pub answers-acceptedtable-transition-of :
    Answers judged.transition_of.Kinds.ps judged.transition_of.Kinds.r (λ κs. ByReason) judged.transition_of.Reads.Pre judged.transition_of.Reads.Post
answers-acceptedtable-transition-of κs a pre x v p = reasons.transition_judged _ _ _ _ _ _ _ p

pub answers-acceptedtable-assignments-of :
    Answers judged.assignments_of.Kinds.ps judged.assignments_of.Kinds.r (λ κs. ByReason) judged.assignments_of.Reads.Pre judged.assignments_of.Reads.Post
answers-acceptedtable-assignments-of κs a pre x v p = reasons.assignments_judged _ _ _ _ _ _ _ p

pub nocturenc-judge : Answers requests.judge.Kinds.ps requests.judge.Kinds.r (λ κs. ByReason) requests.judge.Reads.Pre requests.judge.Reads.Post
nocturenc-judge κs a pre x v p = subst ByReason (sym p) (reasons.judge _)

pub nocturenc-order : Answers requests.order.Kinds.ps requests.order.Kinds.r (λ κs. ByReason) requests.order.Reads.Pre requests.order.Reads.Post
nocturenc-order κs a pre x v p = reasons.order _ _ _ _ p

pub nocturenc-transition :
    Answers requests.transition.Kinds.ps requests.transition.Kinds.r (λ κs. ByReason) requests.transition.Reads.Pre requests.transition.Reads.Post
nocturenc-transition κs a pre x v p = reasons.transition _ _ _ _ _ p

pub nocturenc-assignments :
    Answers requests.assignments.Kinds.ps requests.assignments.Kinds.r (λ κs. ByReason) requests.assignments.Reads.Pre requests.assignments.Reads.Post
nocturenc-assignments κs a pre x v p = reasons.assignments _ _ _ _ _ p
