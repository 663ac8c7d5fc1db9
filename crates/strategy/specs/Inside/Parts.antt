-- What the checks 10 to 14 ask of the parts of sound words, and what they leave.
use Rattle.std.specs.Prelude.{ℕ, ◌*◌, ◌<◌, ◌≤◌, true, ◌≡◌, List, [], length, get_or, Result}
use Rattle.paper.specs.Limits.{most_depth, most_reads, most_rows, most_variables}
use Rattle.paper.specs.Formula.{Formula, WellFormed}
use Rattle.paper.specs.Judgement.{Judgement, strangers, missed, doubled, judge_order, judge}
use Rattle.table.specs.declared.Layout.{Layout}
use Rattle.entries.specs.First.{first}
use Rattle.rows.specs.Rows.{keeps_rules, is_deep}
use Rattle.rows.specs.Formula.{formula_at}
use Rattle.written.specs.Written.{Ascend}
use Rattle.strategy.specs.Verdict.{as_judged}
use Rattle.strategy.specs.Judge.{proposal_of, words_of_order, left_by}
use Rattle.paper.specs.declared.Refusal.{Refusal}
use Rattle.strategy.specs.declared.Accepted.{Accepted}

-- What the judgement of sound parts asks: rows that keep their rules, no deeper than 64, which so write the formula that is read
-- from them, with reads that are variables, and chosen labels of those rows, strictly ascending.
pub record Parts (rows reads chosen : List ℕ) (#V #N : ℕ) : Type 0 where
  pub room : 4 * #N ≤ length rows
  pub some_rows : 1 ≤ #N
  pub at_most_rows : #N ≤ most_rows
  pub at_most_variables : #V ≤ most_variables
  pub at_most_reads : length reads ≤ most_reads
  pub keeps : (i : ℕ) → i < #N → keeps_rules rows reads #V #N i ≡ true
  pub shallow : first (is_deep rows) #N ≡ #N
  pub well_formed : WellFormed #V (formula_at rows reads most_depth 0)
  pub reads_below : (r : ℕ) → r < length reads → get_or reads r 0 < #V
  pub below : (k : ℕ) → k < length chosen → get_or chosen k 0 < #N
  pub ascends : Ascend chosen

-- the formula of parts
abbrev pub formula_of : List ℕ → List ℕ → Formula
formula_of rows reads = formula_at rows reads most_depth 0

-- parts that passed 10, 11 and 12
pub record Covered (rows reads chosen : List ℕ) (#V #N : ℕ) : Type 0 where
  pub parts : Parts rows reads chosen #V #N
  pub no_strangers : strangers (formula_of rows reads) (proposal_of chosen) ≡ []
  pub none_missed : missed #V (formula_of rows reads) (proposal_of chosen) ≡ []
  pub none_doubled : doubled #V (formula_of rows reads) (proposal_of chosen) ≡ []

module _ (rows reads chosen : List ℕ) (l : Layout) (lent left : List ℕ) (r : Result Accepted Refusal) where
  -- a judgement of parts: its answer, and what it leaves in the words lent for the order
  pub record JudgedBy (j : Judgement) : Type 0 where
    pub answered : r ≡ as_judged l j
    pub left_so : left ≡ left_by (as_judged l j) (λ _. words_of_order (formula_of rows reads) (proposal_of chosen)) lent

  -- the last two checks, and all five
  abbrev pub OrderedParts : Type 0
  OrderedParts = JudgedBy (judge_order l.variables (formula_of rows reads) (proposal_of chosen))

  abbrev pub JudgedParts : Type 0
  JudgedParts = JudgedBy (judge l.variables (formula_of rows reads) (proposal_of chosen))
