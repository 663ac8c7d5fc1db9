-- Demand 2, the transitions, and demand 3, second half (specs/Demands.antt, `TransitionsListed` and `TrueByTransitions`), of accepted
-- words and the table that is read from them.
use Prim.Native.Nat.{ℕ, ◌<◌}
use native.Mathlib.Omega.{arith}
use mathlib.Core.Path.{◌≡◌, refl, sym, ap, subst, ◌∙◌}
use mathlib.Core.Bool.{Bool, true, false, cond}
use mathlib.Core.List.Memᴰ
use mathlib.Core.List.{List, Memᴰ}
use lib.Dec.{eqb}
use lib.ListN.{length, take}
use Rattle.paper.specs.declared.refusals.Fault.TheVariants.{NoSuchTransition, OutTooShort}
use Rattle.paper.specs.declared.Label.{Label}
use Rattle.paper.specs.Formula.{Formula, labels}
use Rattle.paper.specs.Branch.{branches}
use Rattle.paper.specs.Transition.{is_kept, keys, transition}
use Rattle.paper.specs.Meaning.{True}
use Rattle.paper.proofs.Lists.{of_map}
use Rattle.paper.proofs.Labels.{mem-has}
use Rattle.paper.proofs.Keys.{to-class}
use Rattle.paper.proofs.KeyLists.{get_d-mem}
use Rattle.paper.proofs.Theorems.{theorem2, keys-listed}
use Rattle.written.specs.Written.{Table}
use Rattle.written.specs.Tables.{table_in}
use Rattle.written.specs.Inside.Understood.{Understood}
use Rattle.net.proofs.Spans.{labels-between}
use Rattle.strategy.specs.declared.Accepted.{Accepted}
use Rattle.marks.specs.Marks.{is_marked}
use Rattle.strategy.specs.Judge.{judged_of}
use Rattle.transitions.proofs.MarkedBytes.{bytes-at}
use Rattle.answers.specs.Requests.{judge_of, kept_marks, transition_of}
use Rattle.answers.proofs.Accepted.{is-understood, count_is}
use Rattle.answers.proofs.Keeping.{amounts}
use Rattle.nocturenc.specs.Packed.{AnswerPacked}
use Rattle.demands.specs.Allowed.{row_count, transition_count}
use Rattle.demands.specs.Demands.{Counts, key_of, slice_by_bytes, IsTransition, TransitionsListed, TrueByTransitions}
use Rattle.demands.proofs.Contracts.{transition-allows}
use Rattle.demands.proofs.Judged.{counts-read}
use Rattle.demands.proofs.Filled.{fills-front, refuses-so, transition-given, transition-short, transition-absent}
use Rattle.demands.proofs.Differ.{numbered, bytes-differ}
use Rattle.demands.proofs.Slices.{slice-alike}
use Rattle.std.specs.Prelude.{Ok}

module _ (words : List ℕ) (a : Accepted) (e : judged_of words ≡ Ok a) (r : ℕ) (p : AnswerPacked (judge_of words) r) where
  abbrev t : Table
  t = table_in words a.layout

  abbrev f : Formula
  f = t.formula

  abbrev A : List Label
  A = t.strategy

  known : Understood words a.layout
  known = is-understood words a e

  counts : Counts t r
  counts = counts-read words a e r p

  -- the count that C reads, and the number of bytes
  many : a.transitions ≡ transition_count r
  many = count_is words a e ∙ sym counts.transitions

  rows : (k : ℕ) → row_count r ≡ length (kept_marks words a.layout k)
  rows k = counts.rows ∙ known.size_is ∙ sym ((amounts words a e).transition_is k)

  -- the byte of a label of the formula is 1 if transition k keeps it, else not
  byte-says : (k : ℕ) (i : Label) → Memᴰ i (labels f) → is_marked (kept_marks words a.layout k) i.0 ≡ is_kept f A (key_of t k) i
  unfolding is_marked
  byte-says k i m = rw (known.labels_are, bytes-at (is_kept f A (key_of t k)) a.layout.rows i.0 below) (go (is_kept f A (key_of t k) i))
    where
      below : i.0 < a.layout.rows
      below = let (from, to) = labels-between 0 a.layout.rows i (mem-has (rw known.labels_are at m)) in omega arith

      go : (b : Bool) → eqb (cond b 1 0) 1 ≡ b
      go true = refl
      go false = refl

  is-transition : (k : ℕ) → IsTransition t k (kept_marks words a.layout k)
  is-transition k = record { bytes_are = refl; slice_is = slice-alike _ (is_kept f A (key_of t k)) f (byte-says k) }

  pub transitions-listed : TransitionsListed words r t
  transitions-listed = record {
    listed = keys-listed f A;
    each = λ k h lent room left s q.
        let given = transition-given words a e kept_marks k (length lent) (omega (arith, many)) (omega (arith, rows k)) in
        fills-front (transition_of words k (length lent)) (transition-allows words k q) (kept_marks words a.layout k) (row_count r) (IsTransition t k) given
        (rows k) (is-transition k);
    differ = λ j k h g bytes b c.
        bytes-differ f A known.well_formed.rising j k (omega (arith, counts.transitions)) (omega (arith, counts.transitions))
        (sym b.bytes_are ∙ c.bytes_are);
    stands = λ b m.
        let (k, h, same) = numbered ((keys-listed f A).onto b m) in
        (k, omega (arith, counts.transitions), to-class A (branches f) (key_of t k) m (sym same));
    no_more = λ k h lent left s q.
        refuses-so (transition_of words k (length lent)) (transition-allows words k q) NoSuchTransition a.transitions (transition_count r)
        (transition-absent words a e kept_marks k (length lent) (omega (arith, many))) (sym many);
    too_short = λ k h lent room left s q.
        refuses-so (transition_of words k (length lent)) (transition-allows words k q) OutTooShort (length (kept_marks words a.layout k)) (row_count r)
        (transition-short words a e kept_marks k (length lent) (omega (arith, many)) (omega (arith, rows k))) (rows k);
  }

  -- Theorem 2, over the bytes that the requests leave
  pub true_by_transitions : TrueByTransitions words r t
  true_by_transitions lent left answer given m xs =
      let (forth, back) = theorem2 m xs f A in (
        λ true-whole.
            let (g, at, true-there) = forth true-whole in
            let (i, in-keys, same) = of_map (transition f A) (keys f A) at in
            let (k, below, is_key) = numbered in-keys in
            let h : k < transition_count r = omega (arith, counts.transitions) in
            (k, h, subst (True m xs) (same ∙ ap (transition f A) (sym is_key) ∙ sym (sliced k h)) true-there),
        λ (k, h, true-there).
            let below : k < length (keys f A) = omega (arith, counts.transitions) in
            back (transition f A (key_of t k), Memᴰ.map (transition f A) (get_d-mem (keys f A) k below), subst (True m xs) (sliced k h) true-there),
      )
    where
      sliced : (k : ℕ) → k < transition_count r → slice_by_bytes t (take (row_count r) (left k)) ≡ transition f A (key_of t k)
      sliced k h = let (room, q) = given k h in (transitions-listed.each k h (lent k) room (left k) (answer k) q).1.slice_is
