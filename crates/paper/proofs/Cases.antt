-- The definitions answer document 01's starred cases as the document says; and each case meets the premises that the
-- statements ask: its formula is well formed and the labels of its proposal ascend, both shown by a test that computes.
use Prim.Native.Nat.{ℕ, suc}
use mathlib.Core.Path.{◌≡◌, refl}
use mathlib.Core.Bool.{Bool, true, ◌&&◌}
use mathlib.Core.List.{List, [], ◌∷◌, map, Memᴰ}
use lib.Dec.{leb, ltb}
use borrow.Author.Tests.{leb-true, ltb-true}
use Rattle.paper.specs.Lists.{all_of}
use Rattle.paper.specs.Formula.{Label, Variable, alike, Formula, labels, candidates, stars, Rising, WellFormed}
use Rattle.paper.specs.Cases.{Case, variables, answer, proposal, P, starred_formulas}
use Rattle.paper.proofs.Bools.{and_left, and_right}
use Rattle.paper.proofs.Lists.{of-any, of-all}
use Rattle.paper.proofs.Labels.{alike-eq}

pub starred-cases : map answer starred_formulas ≡ map (λ c. c.expected) starred_formulas
starred-cases = refl

-- the tests
abbrev rises : ℕ → List Label → Bool
rises p [] = true
rises p (l ∷ ls) = leb p l.0 && rises (suc l.0) ls

of-rises : (p : ℕ) (ls : List Label) → rises p ls ≡ true → Rising p ls
of-rises p [] h = tt
of-rises p (l ∷ ls) h = (leb-true p l.0 (and_left (leb p l.0) _ h), of-rises (suc l.0) ls (and_right (leb p l.0) _ h))

module _ (#V : ℕ) where
  abbrev is_below : Variable → Bool
  is_below v = ltb v.0 #V

  abbrev pub is_well_formed : Formula → Bool
  is_well_formed f = rises 0 (labels f) && (all_of (λ c. is_below c.variable) (candidates f) && all_of (λ s. all_of is_below s.reads) (stars f))

  pub of-well-formed : (f : Formula) → is_well_formed f ≡ true → WellFormed #V f
  of-well-formed f h =
      let h' = and_right (rises 0 (labels f)) _ h in
      let inside = and_left (all_of (λ c. is_below c.variable) (candidates f)) _ h' in
      let outside = and_right (all_of (λ c. is_below c.variable) (candidates f)) _ h' in
      record {
        rising = of-rises 0 (labels f) (and_left (rises 0 (labels f)) _ h);
        assigned = λ c t. ltb-true c.variable.0 #V (of-all (λ c. is_below c.variable) inside t);
        read = λ s t v e.
            let (w, u, q) = of-any (alike v) s.reads e in
            rw (alike-eq v w q) (ltb-true w.0 #V (of-all is_below (of-all (λ s. all_of is_below s.reads) outside t) u));
      }

pub starred-well-formed : (c : Case) → Memᴰ c starred_formulas → WellFormed (variables c) c.formula
starred-well-formed c t = of-well-formed (variables c) c.formula (of-all (λ c. is_well_formed (variables c) c.formula) {xs = starred_formulas} refl t)

pub starred-proposals-rise : (c : Case) → Memᴰ c starred_formulas → Rising 0 (proposal c)
starred-proposals-rise c t = of-rises 0 (proposal c) (of-all (λ c. rises 0 (proposal c)) {xs = starred_formulas} refl t)

pub listing-well-formed : WellFormed 2 P
listing-well-formed = of-well-formed 2 P refl
