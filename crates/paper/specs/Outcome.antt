-- How tight a promise is (document 01, "How tight the promises are"), and that a refusal writes nothing (document 01, "Requests
-- and what they give"). Both are said of a function's own contract as the prover reads it: `Pre`, of arguments that are allowed,
-- and `Post`, of those, the result and the lent values at the end. A contract that says less does not have them.
use Rattle.std.specs.Prelude.{ℕ, List, ◌≡◌}
use seplogic.Ra.Ura.{Ura}
use base.Logic.{SProp}
use prog.Memory.{Memory}
use prog.Routine.{Routine}
use types.Logic.{Logic}
use contract.Lifetimes.{Lfts}
use contract.Monad.{Fun, fact}
use denote.Triple.Entry.{Args, Res}
use denote.Triple.Clauses.{Ended, Clauses, Lasts, AtExit, at_exit}
use borrow.Fn.Kinds.{ParamKind, ResultKind, In, Out, Dens, res_t, ended_of}

module _ {n : ℕ} (ps : List (ParamKind n)) (r : ResultKind n) where
  abbrev Result : Lfts n → Type 0
  Result κs = (res_t r κs).Denot

  -- the last value of each parameter that is lent to be changed; `tt` for any other
  abbrev Left : (κs : Lfts n) → Dens κs ps → Type 0
  Left κs a = Lasts (ended_of n ps r) κs a

  -- the contract allows the result x with the last values v
  abbrev Allows : Out n ps r → (κs : Lfts n) (a : Dens κs ps) → Result κs → Left κs a → Type 0
  Allows Post κs a x v = Post κs a x (at_exit (ended_of n ps r) κs a v)

  -- any two outcomes that the contract allows are equal: the result, and every lent word or byte afterwards
  abbrev pub OneOutcome : In n ps → Out n ps r → Type 0
  OneOutcome Pre Post = (κs : Lfts n) (a : Dens κs ps) → Pre κs a
      → (x y : Result κs) (v w : Left κs a) → Allows Post κs a x v → Allows Post κs a y w → (x ≡ y) × (v ≡ w)

  -- where the contract allows a result that is a refusal, what was lent is left as it was
  abbrev pub RefusalLeaves : ((κs : Lfts n) → Result κs → Type 0) → ((κs : Lfts n) (a : Dens κs ps) → Left κs a) → In n ps → Out n ps r → Type 0
  RefusalLeaves IsRefusal lent Pre Post = (κs : Lfts n) (a : Dens κs ps) → Pre κs a
      → (x : Result κs) (v : Left κs a) → Allows Post κs a x v → IsRefusal κs x → v ≡ lent κs a

-- Of a function that is walked by hand the prover reads no contract: there are its clauses, in every model. It asks nothing of its
-- caller; its `ensures` is in every model one fact, `Says`, of the arguments, the result and the lent values at the end; and this
-- fact allows one outcome.
abbrev InEveryModel : Ended → Type 2
InEveryModel T = (M : Type 1) (𝓤 : Ura M) → (𝓛 : Logic 𝓤) → (Memory → SProp 𝓤) → (Routine → Fun 𝓤) → Clauses 𝓤 T

pub record OneOutcomeWalked (T : Ended) (clauses : InEveryModel T) : Type 2 where
  pub Says : (κs : Lfts T.signature.lifetimes) → Args T.signature κs → Res T.signature κs → AtExit T κs → Type 0
  pub says_so : (M : Type 1) (𝓤 : Ura M) (𝓛 : Logic 𝓤) (mem : Memory → SProp 𝓤) (run : Routine → Fun 𝓤)
      (κs : Lfts T.signature.lifetimes) (a : Args T.signature κs) (g : (clauses M 𝓤 𝓛 mem run κs a).ghost) (x : Res T.signature κs) (e : AtExit T κs)
      → (clauses M 𝓤 𝓛 mem run κs a).ensures g x e ≡ fact 𝓤 (Says κs a x e)
  pub one_outcome : (κs : Lfts T.signature.lifetimes) (a : Args T.signature κs) (x y : Res T.signature κs) (v w : Lasts T κs a)
      → Says κs a x (at_exit T κs a v) → Says κs a y (at_exit T κs a w) → (x ≡ y) × (v ≡ w)
