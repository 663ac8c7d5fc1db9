-- `count_kept` counts the labels that pass the test: each of them has a byte.
use Prim.Native.Nat.{ℕ}
use native.Mathlib.Omega.{arith}
use mathlib.Core.Path.{◌≡◌, refl, ap, ◌∙◌}
use mathlib.Core.Bool.{Bool}
use mathlib.Core.List.{List, [], ◌∷◌}
use lib.ListN.{length, get_or}
use Rattle.std.specs.List.{filter}
use Rattle.std.proofs.Common.{rules, tests}
use Rattle.std.proofs.lemmas.Grind.{get_or_default_zero}
use Rattle.std.proofs.lemmas.Iterator.{YieldsList-from_slice}
use Rattle.std.proofs.lemmas.Iterator.Adapters.{serves_from_places}
use Rattle.std.proofs.lemmas.Iterator.Consumers.{YieldsList-from_filter, count_from_yields_List}
use Rattle.paper.specs.Lists.{those}
use Rattle.marks.specs.Marks.{is_marked}
use Rattle.transitions.proofs.assigned.count_kept.Goals as goal

filter-those : (p : ℕ → Bool) (xs : List ℕ) → filter p xs ≡ those p xs
filter-those p [] = refl
filter-those p (x ∷ xs) = rw (filter-those p xs)

pub count-requires-clause-can : goal.count-requires-clause-can
count-requires-clause-can c =
    let labels = c.args.labels.now in (
      tt,
      tt,
      serves_from_places (YieldsList-from_slice labels cc) (λ x q r. search (rules, tests)) (λ x k l e y d a p n m v u w.
          let same : y.now.now ≡ get_or labels k 0 = ap (λ b. b.now) d ∙ e ∙ get_or_default_zero labels k x.now l in
          let bytes : length c.filter.result.p.0.now ≡ length c.args.kept.now = ap (λ q. length q.0.now) c.filter.ensures.closure in
          omega (arith, same, bytes, c.requires k l)),
    )

pub returns : goal.returns
returns c =
    count_from_yields_List _ _ c.count.ensures.ran
    (YieldsList-from_filter _ (is_marked c.args.kept.now) (YieldsList-from_slice c.args.labels.now cc) c.filter.ensures.closure
    (λ x r q k. search (rules, tests)))
    ∙ ap length (filter-those (is_marked c.args.kept.now) c.args.labels.now)
