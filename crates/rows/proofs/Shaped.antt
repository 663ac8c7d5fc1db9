-- Rows that keep their rules have the shape that a walk asks for: past a guard star the children that are left are the
-- expressions under its row, and step to that row's end.
use Prim.Native.Nat.{ℕ, ◌+◌, ◌*◌, ◌<◌, ◌≤◌}
use native.Mathlib.Omega.{arith}
use mathlib.Core.Path.{◌≡◌, sym, subst}
use mathlib.Core.Bool.{true}
use mathlib.Core.List.{List}
use lib.ListN.{length}
use Rattle.paper.specs.Limits.{most_rows}
use Rattle.rows.specs.Rows.{kind_of, arg_of, end_of}
use Rattle.rows.specs.declared.form.Form.{Form}
use Rattle.rows.specs.declared.form.Form.TheVariants as form
use Rattle.rows.specs.Rows.{form_of, meets, keeps_rules}
use Rattle.rows.specs.Inside.Walk.{expressions, first_under, Shaped}
use Rattle.rows.proofs.Meets.{of-no-child}
use Rattle.rows.proofs.Rules.{KindIs, is-FALSE, is-star, is-candidate, is-conjunction, is-disjunction, is-exists}
use Rattle.rows.proofs.Rules.{is-IF, is_none, kind_is, JoinSays, Says, kept}
use Rattle.rows.proofs.Nested.{past-guard, nested}

module _ (rows reads : List ℕ) (#V #N : ℕ) (keep : (i : ℕ) → i < #N → keeps_rules rows reads #V #N i ≡ true) where
  join-under : (i : ℕ) → JoinSays rows i → meets rows (end_of rows i) (i + 1) (arg_of rows i) ≡ true
  join-under i s = subst (λ n. meets rows (end_of rows i) (i + 1) n ≡ true) (sym s.some) s.meet

  under-form : (i : ℕ) → i < #N → (F : Form) → Says rows reads #V i F → meets rows (end_of rows i) (first_under F i) (expressions F (arg_of rows i)) ≡ true
  under-form i h form.False s = of-no-child rows (end_of rows i) (i + 1) (sym s.1)
  under-form i h form.Star s = of-no-child rows (end_of rows i) (i + 1) (sym s.ends)
  under-form i h form.Candidate s = past-guard rows reads #V #N keep i 0 h s.1
  under-form i h form.Conjunction s = join-under i s
  under-form i h form.Disjunction s = join-under i s
  under-form i h form.Exists s = past-guard rows reads #V #N keep i 1 h s.1
  under-form i h form.If s = past-guard rows reads #V #N keep i 2 h s.1
  under-form i h form.Unknown s = absurd s

  -- a kind word is known, and a join has an expression under it
  of-kind : (i : ℕ) {k : ℕ} {F : Form} → KindIs k F → Says rows reads #V i F → (k < 7) × (2 < k → 0 < expressions F (arg_of rows i))
  of-kind i (is-FALSE e) s = (omega arith, λ h. absurd (omega arith))
  of-kind i (is-star e) s = (omega arith, λ h. absurd (omega arith))
  of-kind i (is-candidate e) s = (omega arith, λ h. absurd (omega arith))
  of-kind i (is-conjunction e) s = (omega arith, λ h. omega (arith, s.some))
  of-kind i (is-disjunction e) s = (omega arith, λ h. omega (arith, s.some))
  of-kind i (is-exists e) s = (omega arith, λ h. omega arith)
  of-kind i (is-IF e) s = (omega arith, λ h. omega arith)
  of-kind i (is_none e) s = absurd s

  pub shaped : 4 * #N ≤ length rows → #N ≤ most_rows → Shaped rows #N
  shaped room few =
      let n = nested rows reads #V #N keep room few in
      let says : (i : ℕ) → i < #N → Says rows reads #V i (form_of (kind_of rows i)) = λ i h. (kept rows reads #V #N i (keep i h)).says in
      record {
        room = room;
        few = few;
        known = λ i h. (of-kind i (kind_is (kind_of rows i)) (says i h)).0;
        rises = n.rises;
        within = n.within;
        under = λ i h. under-form i h (form_of (kind_of rows i)) (says i h);
        joined = λ i h. (of-kind i (kind_is (kind_of rows i)) (says i h)).1;
      }
