-- Demand 3, first half (specs/Demands.antt, `CarriedOut`), of accepted words and the table that is read from them: in reported order
-- the labels of the k-th key are the chosen labels of any branch of its class, and these can be carried out.
use Prim.Native.Nat.{ℕ, ◌<◌}
use native.Mathlib.Omega.{arith}
use mathlib.Core.Path.{◌≡◌, refl, sym, subst, ◌∙◌}
use mathlib.Core.Bool.{true}
use mathlib.Core.List.{List, map, Memᴰ}
use lib.ListN.{length, length-map}
use Rattle.paper.specs.declared.refusals.Fault.TheVariants.{NoSuchTransition, OutTooShort}
use Rattle.paper.specs.declared.Label.{Label}
use Rattle.paper.specs.Lists.{those}
use Rattle.paper.specs.Formula.{ℓ, has, Formula}
use Rattle.paper.specs.Branch.{branches}
use Rattle.paper.specs.Before.{before}
use Rattle.paper.specs.Order.{OrderOf}
use Rattle.paper.specs.Strategy.{Strategy}
use Rattle.paper.specs.Transition.{key, same_key, class, keys}
use Rattle.paper.proofs.Bools.{same_answer}
use Rattle.paper.proofs.Lists.{of-those, those-same}
use Rattle.paper.proofs.Labels.{mem-has}
use Rattle.paper.proofs.Distinct.{same_key-eq}
use Rattle.paper.proofs.Keys.{of-key, to-key, to-class}
use Rattle.paper.proofs.KeyLists.{get_d-mem}
use Rattle.paper.proofs.Theorems.{keys-listed, carried_out, reported-is-order}
use Rattle.table.specs.Table.{chosen_in}
use Rattle.written.specs.Written.{Table}
use Rattle.written.specs.Tables.{table_in}
use Rattle.written.specs.Inside.Understood.{Understood}
use Rattle.written.proofs.Words.{map_back}
use Rattle.strategy.specs.declared.Accepted.{Accepted}
use Rattle.strategy.specs.Judge.{judged_of}
use Rattle.answers.specs.Requests.{judge_of, order_of, assigned_of, assignments_of}
use Rattle.answers.proofs.Accepted.{is-understood, is-strategy, count_is}
use Rattle.answers.proofs.Keeping.{amounts}
use Rattle.nocturenc.specs.Packed.{AnswerPacked}
use Rattle.demands.specs.Allowed.{variable_count, chosen_count, transition_count}
use Rattle.demands.specs.Demands.{Counts, key_of, reported, IsAssignments, CarriedOut}
use Rattle.demands.proofs.Contracts.{order-allows, assignments-allow}
use Rattle.demands.proofs.Judged.{counts-read}
use Rattle.demands.proofs.Filled.{fills-front, refuses-so, order-given, order-short, transition-given, transition-short, transition-absent}
use Rattle.std.specs.Prelude.{Ok}

-- labels written as words and read again
read_back : (ls : List Label) → map ℓ (map (λ (i : Label). i.0) ls) ≡ ls
read_back = map_back (λ (i : Label). i.0) ℓ (λ i. refl)

module _ (words : List ℕ) (a : Accepted) (e : judged_of words ≡ Ok a) (r : ℕ) (p : AnswerPacked (judge_of words) r) where
  abbrev t : Table
  t = table_in words a.layout

  abbrev f : Formula
  f = t.formula

  abbrev A : List Label
  A = t.strategy

  known : Understood words a.layout
  known = is-understood words a e

  strategic : Strategy a.layout.variables f A
  strategic = is-strategy words a e

  counts : Counts t r
  counts = counts-read words a e r p

  -- what C reads: the count, S and V
  many : a.transitions ≡ transition_count r
  many = count_is words a e ∙ sym counts.transitions

  abbrev order : List ℕ
  order = map (λ (i : Label). i.0) (reported t)

  ordered-many : chosen_count r ≡ length order
  ordered-many =
      counts.chosen ∙ length-map (chosen_in words a.layout) ℓ ∙ known.chosen_there
      ∙ sym (length-map (reported t) (λ (i : Label). i.0) ∙ (amounts words a e).order_is)

  assigned-many : (k : ℕ) → k < a.transitions → variable_count r ≡ length (assigned_of words a.layout k)
  assigned-many k h = counts.variables ∙ known.names_there ∙ sym ((amounts words a e).assignments_are k h)

  is-order : OrderOf (before f A) A (reported t)
  is-order = reported-is-order a.layout.variables f A strategic.acyclic

  -- on a branch of class k the chosen labels are those of key k
  on_branch : (k : ℕ) (b : List Label) → Memᴰ b (class f A (key_of t k)) → those (has (key_of t k)) (reported t) ≡ those (has b) (reported t)
  on_branch k b m =
      let (u, s) = of-those (λ c. same_key (key A c) (key_of t k)) (branches f) m in
      let one_key = same_key-eq (key A b) (key_of t k) s in
      those-same _ _ (reported t) (λ i q.
      let chosen = is-order.from i (mem-has q) in
      same_answer (has (key_of t k) i) (has b i) (λ h. (of-key A b i (subst (λ j. has j i ≡ true) (sym one_key) h)).0)
      (λ h. subst (λ j. has j i ≡ true) one_key (to-key A b i h chosen)))

  is-assignments : (k : ℕ) → k < a.transitions → IsAssignments t k (assigned_of words a.layout k)
  is-assignments k h =
      let labels = those (has (key_of t k)) (reported t) in
      let (b, m, is_key) = (keys-listed f A).from (key_of t k) (get_d-mem (keys f A) k (omega (arith, count_is words a e))) in
      let carried = carried_out a.layout.variables f A known.well_formed strategic.minimal (reported t) is-order b m in
      record {
        of_branch = λ b m. read_back labels ∙ on_branch k b m;
        carried = rw (known.names_there, read_back labels, on_branch k b (to-class A (branches f) (key_of t k) m (sym is_key))) carried;
      }

  pub carried-out-in-order : CarriedOut words r t
  carried-out-in-order = record {
    ordered = λ lent room left s q.
        fills-front (order_of words (length lent)) (order-allows words q) order (chosen_count r) (λ ws. map ℓ ws ≡ reported t)
        (order-given words a e (length lent) (omega (arith, ordered-many))) ordered-many (read_back (reported t));
    order_too_short = λ lent room left s q.
        refuses-so (order_of words (length lent)) (order-allows words q) OutTooShort (length order) (chosen_count r)
        (order-short words a e (length lent) (omega (arith, ordered-many))) ordered-many;
    assigned = λ k h lent room left s q.
        let below : k < a.transitions = omega (arith, many) in
        let given = transition-given words a e assigned_of k (length lent) below (omega (arith, assigned-many k below)) in
        fills-front (assignments_of words k (length lent)) (assignments-allow words k q) (assigned_of words a.layout k) (variable_count r)
        (IsAssignments t k) given (assigned-many k below) (is-assignments k below);
    no_more = λ k h lent left s q.
        refuses-so (assignments_of words k (length lent)) (assignments-allow words k q) NoSuchTransition a.transitions (transition_count r)
        (transition-absent words a e assigned_of k (length lent) (omega (arith, many))) (sym many);
    too_short = λ k h lent room left s q.
        let below : k < a.transitions = omega (arith, many) in
        refuses-so (assignments_of words k (length lent)) (assignments-allow words k q) OutTooShort (length (assigned_of words a.layout k)) (variable_count r)
        (transition-short words a e assigned_of k (length lent) below (omega (arith, assigned-many k below))) (assigned-many k below);
  }
