-- For each public function, any two outcomes that its contract allows are equal.
use native.Mathlib.Omega.{arith}
use mathlib.Core.Path.{◌≡◌, refl, ap, subst}
use Rattle.std.specs.Prelude.{Option, None, Some}
use Rattle.paper.specs.declared.Label.{Label}
use Rattle.paper.specs.Formula.{ℓ}
use mir.Syntax.{Dict}
use denote.RattleType.{RattleType}
use denote.Param.Laws.{Laws}
use Rattle.paper.specs.Outcome.{OneOutcome}
use Rattle.paper.proofs.Outcome.{by-equation}
use Rattle.rows.specs.declared.walk.Folding.{Ghosts}
use Rattle.rows.specs.declared.walk.Children.{Children}
use Rattle.rows.specs.Inside.Walk.{Stand}
use Rattle.rows.specs.Inside.Stepping.{Steps}
use Rattle.rows.specs.Inside.OneProof.{Stand-prop}
use Rattle.rows.proofs as rows
use Rattle.rows.proofs.depth as depth
use Rattle.rows.proofs.form as form
use Rattle.rows.proofs.walk as walk
use Rattle.rows.proofs.walk.ChildrenIterator as children

pub kind-of : OneOutcome rows.kind_of.Kinds.ps rows.kind_of.Kinds.r rows.kind_of.Reads.Pre rows.kind_of.Reads.Post
kind-of κs a pre x y v w p q = (by-equation p q, refl)

pub arg-of : OneOutcome rows.arg_of.Kinds.ps rows.arg_of.Kinds.r rows.arg_of.Reads.Pre rows.arg_of.Reads.Post
arg-of κs a pre x y v w p q = (by-equation p q, refl)

pub end-of : OneOutcome rows.end_of.Kinds.ps rows.end_of.Kinds.r rows.end_of.Reads.Pre rows.end_of.Reads.Post
end-of κs a pre x y v w p q = (by-equation p q, refl)

pub from-of : OneOutcome rows.from_of.Kinds.ps rows.from_of.Kinds.r rows.from_of.Reads.Pre rows.from_of.Reads.Post
from-of κs a pre x y v w p q = (by-equation p q, refl)

pub form-of : OneOutcome form.form_of.Kinds.ps form.form_of.Kinds.r form.form_of.Reads.Pre form.form_of.Reads.Post
form-of κs a pre x y v w p q = (by-equation p q, refl)

pub formpartialeq-eq : OneOutcome form.FormPartialEq.eq.Kinds.ps form.FormPartialEq.eq.Kinds.r form.FormPartialEq.eq.Reads.Pre form.FormPartialEq.eq.Reads.Post
formpartialeq-eq κs a pre x y v w p q = (by-equation p q, refl)

pub first-broken : OneOutcome rows.first_broken.Kinds.ps rows.first_broken.Kinds.r rows.first_broken.Reads.Pre rows.first_broken.Reads.Post
first-broken κs a pre x y v w p q = (ap ℓ (by-equation p q), refl)

pub reads-taken : OneOutcome rows.reads_taken.Kinds.ps rows.reads_taken.Kinds.r rows.reads_taken.Reads.Pre rows.reads_taken.Reads.Post
reads-taken κs a pre x y v w p q = (by-equation p q, refl)

pub first-deep : OneOutcome depth.first_deep.Kinds.ps depth.first_deep.Kinds.r depth.first_deep.Reads.Pre depth.first_deep.Reads.Post
first-deep κs a pre x y v w p q = (ap ℓ (by-equation p q), refl)

pub expressions-of : OneOutcome walk.expressions_of.Kinds.ps walk.expressions_of.Kinds.r walk.expressions_of.Reads.Pre walk.expressions_of.Reads.Post
expressions-of κs a pre x y v w p q = (by-equation p q, refl)

pub first_of : OneOutcome walk.first_of.Kinds.ps walk.first_of.Kinds.r walk.first_of.Reads.Pre walk.first_of.Reads.Post
first_of κs a pre x y v w p q = (by-equation p q, refl)

one-children : (x y : Children) → x.rows ≡ y.rows → x.more ≡ y.more → x.at ≡ y.at → x ≡ y
one-children x y p q r =
    subst (λ at. (s : Stand y.rows.now y.more at.0) → x ≡ record { rows = y.rows; more = y.more; at = at; there = s }) r
    (subst (λ more. (s : Stand y.rows.now more x.at.0) → x ≡ record { rows = y.rows; more = more; at = x.at; there = s }) q
    (subst (λ rows. (s : Stand rows.now x.more x.at.0) → x ≡ record { rows = rows; more = x.more; at = x.at; there = s }) p
    (λ s i. record { rows = x.rows; more = x.more; at = x.at; there = Stand-prop x.rows.now x.more x.at.0 x.there s i }))) y.there

pub formula-children :
    OneOutcome walk.Formula.children.Kinds.ps walk.Formula.children.Kinds.r walk.Formula.children.Reads.Pre walk.Formula.children.Reads.Post
formula-children κs a pre x y v w p q = (one-children x y (by-equation p.0 q.0) (by-equation p.1 q.1) (by-equation p.2 q.2), refl)

one-step : (s : Children) (x y : Option Label) (t u : Children) → Steps s x t → Steps s y u → (x ≡ y) × (t ≡ u)
one-step s None None t u p q = (refl, by-equation p.1 q.1)
one-step s None (Some k) t u p q = absurd (omega (arith, p.0, q.0))
one-step s (Some k) None t u p q = absurd (omega (arith, p.0, q.0))
one-step s (Some k) (Some l) t u (_, k_is, t_rows, t_more, t_at) (_, l_is, u_rows, u_more, u_at) =
    (ap Some (by-equation k_is l_is), one-children t u (by-equation t_rows u_rows) (by-equation t_more u_more) (by-equation t_at u_at))

pub childreniterator-next : OneOutcome children.next.Kinds.ps children.next.Kinds.r children.next.Reads.Pre children.next.Reads.Post
childreniterator-next κs a pre x y v w p q =
    let one = one-step a.0.now x y v.0 w.0 p.0 q.0 in
    (one.0, λ i. (one.1 i, tt))

-- of a walk, whatever it works out
pub formula-value_of : (T U : RattleType) (t : Laws T) (u : Laws U) (F : Ghosts T.Denot U.Denot) (d : Dict)
    → OneOutcome (walk.Formula.value_of.Kinds.ps T U t u) (walk.Formula.value_of.Kinds.r T U t u) (walk.Formula.value_of.Reads.Pre T U t u F d)
    (walk.Formula.value_of.Reads.Post T U t u F d)
formula-value_of T U t u F d κs a pre x y v w p q = (by-equation p q, refl)
