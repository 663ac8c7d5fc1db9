-- The requests answer document 01's starred cases as the document says (specs/Cases.antt), and so the cases beside them: of the judgement,
-- of the sections, of the rows and of the requests themselves. All is computed.
use mathlib.Core.Path.{◌≡◌, refl}
use mathlib.Core.List.{[], ◌∷◌, map}
use lib.ListN.{take}
use Rattle.entries.specs.First.{first}
use Rattle.rows.specs.Rows.{form_of, meets, taken_before, false_rule, star_rule, candidate_rule, join_rule, bound_rule, ends_within, keeps_rules, round_of}
use Rattle.entries.specs.Entries.{ascend}
use Rattle.sections.specs.Sections.{open_at, variables_at, reads_at, rows_at, strategy_at, end_at}
use Rattle.table.specs.Table.{sections, checked}
use Rattle.rows.specs.Formula.{star_at, children_at, node_at, formula_at}
use Rattle.written.specs.Written.{written}
use Rattle.written.specs.Example.{words_of_p}
use Rattle.strategy.specs.Judge.{judged_of}
use Rattle.answers.specs.Requests.{judge_of, outcome_of, of_transition}
use Rattle.demands.specs.Cases.{listing, starred, further}
use Rattle.demands.specs.SectionCases.{section_cases}
use Rattle.demands.specs.RowCases.{row_cases}
use Rattle.demands.specs.RequestCases.{done, requests, checks}

pub starred-cases : map (λ c. listing c.words) starred ≡ map (λ c. c.expected) starred
unfolding first form_of meets ascend taken_before false_rule star_rule candidate_rule join_rule bound_rule ends_within keeps_rules round_of
    open_at variables_at reads_at rows_at strategy_at end_at sections checked star_at children_at node_at formula_at written
    judged_of judge_of outcome_of of_transition
starred-cases = refl

-- the first case has the words of document 01's listing
pub listing-words : map (λ c. c.words) (take 1 starred) ≡ words_of_p ∷ []
unfolding written
listing-words = refl

pub further-cases : map (λ c. listing c.words) further ≡ map (λ c. c.expected) further
unfolding first form_of meets ascend taken_before false_rule star_rule candidate_rule join_rule bound_rule ends_within keeps_rules round_of
    open_at variables_at reads_at rows_at strategy_at end_at sections checked star_at children_at node_at formula_at written
    judged_of judge_of outcome_of of_transition
further-cases = refl

pub section-cases : map (λ c. listing c.words) section_cases ≡ map (λ c. c.expected) section_cases
unfolding first form_of meets ascend taken_before false_rule star_rule candidate_rule join_rule bound_rule ends_within keeps_rules round_of
    open_at variables_at reads_at rows_at strategy_at end_at sections checked star_at children_at node_at formula_at written
    judged_of judge_of outcome_of of_transition
section-cases = refl

pub row-cases : map (λ c. listing c.words) row_cases ≡ map (λ c. c.expected) row_cases
unfolding first form_of meets ascend taken_before false_rule star_rule candidate_rule join_rule bound_rule ends_within keeps_rules round_of
    open_at variables_at reads_at rows_at strategy_at end_at sections checked star_at children_at node_at formula_at written
    judged_of judge_of outcome_of of_transition
row-cases = refl

pub request-cases : map done requests ≡ map (λ r. r.wanted) requests
unfolding first form_of meets ascend taken_before false_rule star_rule candidate_rule join_rule bound_rule ends_within keeps_rules round_of
    open_at variables_at reads_at rows_at strategy_at end_at sections checked star_at children_at node_at formula_at written
    judged_of judge_of outcome_of of_transition
request-cases = refl

pub check-cases : map (λ c. c.asked) checks ≡ map (λ c. c.wanted) checks
check-cases = refl
