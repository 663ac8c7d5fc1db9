-- The theorems of document 001: each proves a statement of specs/Statements.antt, and asks nothing beside it. The proofs stand in
-- the files named here.
use Prim.Native.Nat.{ℕ}
use mathlib.Core.Path.{refl}
use mathlib.Core.Bool.{Bool}
use mathlib.Core.List.{List, [], ◌∷◌}
use Rattle.paper.specs.Transition.{KeysAreListed}
use Rattle.paper.specs.Formula.{Label, Formula}
use Rattle.paper.specs.Before.{before}
use Rattle.paper.specs.Strategy.{Strategy}
use Rattle.paper.specs.Meaning.{Meaning}
use Rattle.paper.specs.Cases.{P, numbered}
use Rattle.paper.specs.Statements.{BranchesAreMinimalModels, FrozenIsLeast, Proposition5, Proposition6, Proposition7, Proposition8, Theorem2}
use Rattle.paper.specs.Statements.{AcceptedExactly, AcceptedOnlySo, Refusal13, OrderExists, OrderExistsExactly, KeyLength}
use Rattle.paper.specs.Statements.{CarriedOut, ReportedIsOrder, CountsSay, SharingSays, KeysSay}
use Rattle.paper.proofs.BoolForm.{branches-are-minimal-models}
use Rattle.paper.proofs.Frozen.{frozen-is-least}
use Rattle.paper.proofs.Truth as Truth
use Rattle.paper.proofs.Judgement as Judgement
use Rattle.paper.proofs.Order as Order
use Rattle.paper.proofs.Distinct.{keys-are-listed}
use Rattle.paper.proofs.Keys as Keys
use Rattle.paper.proofs.Carry as Carry
use Rattle.paper.proofs.Cover as Cover
use Rattle.paper.proofs.Share as Share
use Rattle.paper.proofs.Numbers as Numbers

-- 1
pub branches-are-models : (f : Formula) → BranchesAreMinimalModels f
branches-are-models = branches-are-minimal-models

-- 2
pub frozen-sets-are-least : (f : Formula) → FrozenIsLeast f
frozen-sets-are-least = frozen-is-least

-- 3
module _ (m : Meaning) (xs : List ℕ) (f : Formula) where
  pub proposition5 : Proposition5 m xs f
  proposition5 = Truth.proposition5 m xs f

  pub proposition6 : Proposition6 m xs f
  proposition6 = Truth.proposition6 m xs f

  pub proposition7 : Proposition7 m xs f
  proposition7 = Truth.proposition7 m xs f

  pub proposition8 : Proposition8 m xs f
  proposition8 = record { some_branch = Truth.some_branch m xs f; same_class = Keys.same_class m xs f (λ S. Truth.inside m S xs f) }

  pub theorem2 : (A : List Label) → Theorem2 m xs f A
  theorem2 = Truth.theorem2 m xs f

-- 4 and 5, for orders and keys
pub order-exists-exactly : (R : Label → Label → Bool) (A : List Label) → OrderExistsExactly R A
order-exists-exactly = Order.order-exists

pub order-exists : (f : Formula) (A : List Label) → OrderExists (before f A) A
order-exists f A = Order.order-exists (before f A) A (Order.before-between f A)

pub keys-listed : (f : Formula) (A : List Label) → KeysAreListed f A
keys-listed = keys-are-listed

module _ (#V : ℕ) (f : Formula) (A : List Label) where
  -- 4
  pub accepted-exactly : AcceptedExactly #V f A
  accepted-exactly = Judgement.accepted-exactly #V f A

  pub accepted-only-so : AcceptedOnlySo #V f A
  accepted-only-so = Judgement.accepted-only-so #V f A

  pub refusal-13 : Refusal13 #V f A
  refusal-13 = Judgement.refusal-13 #V f A

  -- 5
  pub key-length : KeyLength #V f A
  key-length = Keys.keys-have-length #V f A

  -- 6
  pub carried_out : CarriedOut #V f A
  carried_out = Carry.carried_out #V f A

  pub reported-is-order : ReportedIsOrder #V f A
  reported-is-order = Order.reported-is-order #V f A

  -- 7
  pub counts-say : CountsSay #V f A
  counts-say = Cover.counts-say #V f A

  pub sharing-says : SharingSays #V f A
  sharing-says = Share.sharing-says #V f A

  pub numbers-say : KeysSay #V f A
  numbers-say = Numbers.numbers-say #V f A

-- a strategy: the listing's (what the statements ask can be met)
pub listing-strategy : Strategy 2 P (numbered (1 ∷ 4 ∷ 6 ∷ []))
listing-strategy = ((Judgement.accepted-exactly 2 P (numbered (1 ∷ 4 ∷ 6 ∷ []))).0 refl).0
