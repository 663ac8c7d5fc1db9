-- Assignment strategies (document 001, Definitions 1 to 4; document 01, "Strategy"), and the order that is reported of one.
-- A proposal is the list of its labels, ascending; #V is the number of variables, document 01's V.
use Rattle.std.specs.Prelude.{ℕ, ◌<◌, true, ◌&&◌, ◌≡◌}
use mathlib.Core.List.{List, Memᴰ}
use Rattle.paper.specs.Lists.{how_many}
use Rattle.paper.specs.Formula.{Label, Variable, has, Formula, is_candidate, assigns}
use Rattle.paper.specs.Branch.{branches}
use Rattle.paper.specs.Before.{before}
use Rattle.paper.specs.Order.{Acyclic, order}

-- Definition 1: all labels are candidates
abbrev pub Homogeneous : Formula → List Label → Type 0
Homogeneous f A = (l : Label) → has A l ≡ true → is_candidate f l ≡ true

-- how many labels of A on the branch b assign v
abbrev pub chosen_on : Formula → List Label → List Label → Variable → ℕ
chosen_on f A b v = how_many (λ l. has A l && assigns f v l) b

-- d is a covering index of A
abbrev pub HasIndex : ℕ → Formula → List Label → ℕ → Type 0
HasIndex #V f A d = (b : List Label) × Memᴰ b (branches f) × (v : Variable) × (v.0 < #V) × (d ≡ chosen_on f A b v)

-- Definition 2: a minimal covering has no covering index but 1
abbrev pub MinimalCovering : ℕ → Formula → List Label → Type 0
MinimalCovering #V f A = (d : ℕ) → HasIndex #V f A d → d ≡ 1

-- Definition 4, with Definition 3 over "before": an acyclic minimal covering
pub record Strategy (#V : ℕ) (f : Formula) (A : List Label) : Type 0 where
  pub homogeneous : Homogeneous f A
  pub minimal : MinimalCovering #V f A
  pub acyclic : Acyclic (before f A) A

-- the order that is reported of a proposal (document 01, "Reported order"); where there is no order, as far as it goes
abbrev pub reported_order : Formula → List Label → List Label
reported_order f A = order (before f A) A
