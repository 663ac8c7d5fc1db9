-- The loop of `keep` over the expressions under a row: what is left for those still to come, together with the bytes set so far,
-- gives what all of them give from the beginning.
use Prim.Native.Nat.{ℕ, ◌-◌, ◌<◌, ◌≤◌}
use native.Mathlib.Omega.{arith}
use mathlib.Core.Path.{◌≡◌, refl, sym, ap, subst, ◌∙◌}
use mathlib.Core.Bool.{Bool}
use mathlib.Core.List.{List, [], ◌∷◌}
use lib.ListN.{length, set}
use Rattle.std.specs.Prelude.{None, Some}
use Rattle.paper.specs.Limits.{most_rows}
use Rattle.paper.specs.declared.Label.{Label}
use Rattle.paper.specs.Formula.{ℓ}
use Rattle.paper.specs.Inside.Structure.Kept.{kept_at}
use Rattle.rows.specs.Rows.{kind_of, end_of, form_of}
use Rattle.rows.specs.declared.form.Form.{Form}
use Rattle.rows.specs.Formula.{formula_at}
use Rattle.rows.specs.Inside.Walk.{expressions_at, first_at, Shaped, Walkable}
use Rattle.rows.proofs.Rules.{number_of}
use Rattle.rows.proofs.Walks.{IsJoin, join-kind, Along, along_under, along-on, along-next}
use Rattle.keys.specs.declared.Distinct.{Distinct}
use Rattle.marks.specs.Inside.Chosen.{Marked}
use Rattle.keys.specs.Inside.Keys.{total, keys_at}
use Rattle.keys.proofs.KeysUnder.{totals_from, numbers-step}
use Rattle.transitions.specs.declared.Shares.{Shares}
use Rattle.transitions.specs.declared.Shares.TheVariants.{Done}
use Rattle.transitions.specs.declared.Turn.{Turn}
use Rattle.transitions.specs.Inside.Kept.{CanTake, turn_of, goes_by_each, shares_of, marked_by, Keepable, KeptAfter}
use Rattle.transitions.proofs.Sharing.{Fits, fits-take, fits_next, fits_on}
use Rattle.transitions.proofs.KeptRows.{kept-none, IsLeaf, kept-lone, each-kind, kept_in, kept_from, kept_step, kept-end, none_after, fits_under, kept_under}
use Rattle.transitions.proofs.MarkedBytes.{marked_append}

-- a leaf's walk sets its own byte
module _ {rows marks : List ℕ} {left i k : ℕ} {out : List ℕ} where
  pub set-with-none : left ≡ 0 → KeptAfter rows marks left i k out (set out i 1)
  unfolding marked_by
  set-with-none none = record { bytes_are = λ A marked reads. rw (kept-none A rows reads left i k none) }

  pub set-alone : {f : Form} → (left ≡ 0 → ⊥) → f ≡ form_of (kind_of rows i) → IsLeaf f
      → KeptAfter rows marks left i k out (set out i 1)
  unfolding marked_by
  set-alone deep e leaf = record { bytes_are = λ A marked reads. rw (kept-lone A rows reads left i k deep e leaf) }

-- The bytes after a child's turn: where it takes part, those of the labels that its key keeps are set, else they stay.
pub record Turned (rows marks : List ℕ) (left : ℕ) (u : Turn) (i : ℕ) (before after : List ℕ) : Type 0 where
  pub same_length : length after ≡ length before
  pub bytes_are : (A : List Label) → Marked A marks → (reads : List ℕ) → after ≡ marked_by (kept_in A rows marks reads left u i) before

module _ {rows marks : List ℕ} {left i : ℕ} {u : Turn} {out after : List ℕ} (now : after ≡ out) where
  pub turned_on : {before : List ℕ} {k : ℕ} → u.key ≡ Some k → length out ≡ length before → KeptAfter rows marks left i k before out
      → Turned rows marks left u i before after
  turned_on on same q = rw now (record { same_length = same; bytes_are = λ A marked reads. rw on (q.bytes_are A marked reads) })

  pub turned-off : u.key ≡ None → Turned rows marks left u i out after
  unfolding marked_by
  turned-off off = rw now (record { same_length = refl; bytes_are = λ A marked reads. rw off })

-- The loop over the expressions under row i, for key k, began with bytes out₀. Now m of them are still to come, the next stands at
-- label c, and they take part by s: with what they keep set too, the bytes are those of key k.
pub record Taking (rows marks : List ℕ) (#N left i k : ℕ) (out₀ out : List ℕ) (s : Shares) (m : ℕ) (c : Label) : Type 0 where
  pub same_length : length out ≡ length out₀
  pub along : Along rows #N m c.0
  pub fits : Fits s (totals_from rows marks (left - 1) m c.0)
  pub marks_all : (A : List Label) → Marked A marks → (reads : List ℕ)
      → marked_by (kept_from A rows marks reads (left - 1) s m c.0) out ≡ marked_by (kept_at A (formula_at rows reads left i) k) out₀

module _ {rows marks : List ℕ} {#N left i k : ℕ} {out₀ : List ℕ} where
  -- it holds as the loop begins, at a join
  pub taking-begins : {f : Form} {each : Bool} {s : Shares} {m : ℕ} {c : Label} {own : Distinct} → f ≡ form_of (kind_of rows i) → IsJoin f → (left ≡ 0 → ⊥)
      → Shaped rows #N → Keepable rows marks out₀ #N i left own k → each ≡ goes_by_each f → s ≡ shares_of each own k → m ≡ expressions_at rows i
      → c ≡ ℓ (first_at rows i) → Taking rows marks #N left i k out₀ out₀ s m c
  taking-begins e join deep shaped p each-is s-is all c-is =
      let w : Walkable rows #N i = record { shaped = shaped; here = p.here } in
      let high = join-kind e join in
      let few = rw p.own_are at p.few in
      let among = rw p.own_are at p.among in
      record {
        same_length = refl;
        along = rw (all, number_of c-is) (along_under w);
        fits = rw (all, number_of c-is, s-is, p.own_are, each-is, e, each-kind (kind_of rows i)) (fits_under marks left k w deep high few among);
        marks_all = λ A marked reads.
            ap (λ ls. marked_by ls out₀) (rw (all, number_of c-is, s-is, p.own_are, each-is, e, each-kind (kind_of rows i))
            (sym (kept_under marks left k w deep high few among A marked reads)));
      }

  module _ {out : List ℕ} {s : Shares} {m : ℕ} {c : Label} (t : Taking rows marks #N left i k out₀ out s m c) where
    -- where no expression is left, or none of those that are takes part, the bytes are those of key k
    none-left : ((A : List Label) (reads : List ℕ) → kept_from A rows marks reads (left - 1) s m c.0 ≡ [])
        → KeptAfter rows marks left i k out₀ out
    unfolding marked_by
    none-left none = record { bytes_are = λ A marked reads. ap (λ ls. marked_by ls out) (sym (none A reads)) ∙ t.marks_all A marked reads }

    pub taking-ends : m ≡ 0 → KeptAfter rows marks left i k out₀ out
    taking-ends done = none-left (λ A reads. kept-end A rows marks reads (left - 1) s m c.0 (omega arith))

    pub taking-stops : s ≡ Done → KeptAfter rows marks left i k out₀ out
    taking-stops e = none-left (λ A reads. rw e (none_after A rows marks reads (left - 1) m c.0))

module _ {rows marks : List ℕ} {#N left i k : ℕ} {out₀ out : List ℕ} {s : Shares} {m : ℕ} {c : Label}
    (t : Taking rows marks #N left i k out₀ out s m c) (some : 0 < m) where
  -- in a turn the walk can go on at c
  pub taking-on : Walkable rows #N c.0
  taking-on = along-on t.along some

  abbrev own : ℕ
  own = total (keys_at rows marks (left - 1) c.0)

  abbrev others : List ℕ
  others = totals_from rows marks (left - 1) (m - 1) (end_of rows c.0)

  fits-here : Fits s (own ∷ others)
  fits-here = subst (Fits s) (numbers-step _ rows m c.0 some) t.fits

  -- the child there has these keys, n in number, and its turn is u
  module _ {keys : Distinct} (keys-are : keys ≡ keys_at rows marks (left - 1) c.0) {n : ℕ} (counted : n ≡ total keys) where
    n-is : n ≡ own
    n-is = counted ∙ ap total keys-are

    pub taking-take : CanTake s n
    taking-take = subst (CanTake s) (sym n-is) (fits-take own others s fits-here)

    module _ {u : Turn} (u-is : u ≡ turn_of s n) where
      turn-here : u ≡ turn_of s own
      turn-here = u-is ∙ ap (turn_of s) n-is

      -- where it takes part, it is asked for a key of its own
      pub taking-asks : {q : ℕ} → u.key ≡ Some q → #N ≤ length out₀ → length marks ≡ most_rows → Keepable rows marks out #N c.0 (left - 1) keys q
      taking-asks on room size = record {
        here = taking-on.here;
        room = let e = t.same_length in omega arith;
        size = size;
        own_are = keys-are;
        few = rw keys-are (fits_on own others s fits-here (sym (ap (λ u. u.key) turn-here) ∙ on)).0;
        among = rw keys-are (fits_on own others s fits-here (sym (ap (λ u. u.key) turn-here) ∙ on)).1;
      }

      -- and after it, with what it keeps set and c moved to its end, it holds again
      module _ {out' : List ℕ} (kept : Turned rows marks (left - 1) u c.0 out out') where
        next-is : u.next ≡ (turn_of s own).next
        next-is = ap (λ u. u.next) turn-here

        pub taking-turns : {m' : ℕ} {c' : Label} → m' ≡ m - 1 → c' ≡ ℓ (end_of rows c.0) → Taking rows marks #N left i k out₀ out' u.next m' c'
        taking-turns one_less c-is =
            record {
              same_length = kept.same_length ∙ t.same_length;
              along = rw (one_less, number_of c-is) (along-next t.along some);
              fits = rw (one_less, number_of c-is, next-is) (fits_next own others s fits-here);
              marks_all = λ A marked reads.
                  let turned = kept.bytes_are A marked reads ∙ ap (λ u. marked_by (kept_in A rows marks reads (left - 1) u c.0) out) turn-here in
                  let rest = kept_from A rows marks reads (left - 1) (turn_of s own).next (m - 1) (end_of rows c.0) in
                  rw (one_less, number_of c-is, next-is, turned)
                  (sym (marked_append (kept_in A rows marks reads (left - 1) (turn_of s own) c.0) rest out)
                  ∙ ap (λ ls. marked_by ls out) (sym (kept_step A rows marks reads (left - 1) s m c.0 some)) ∙ t.marks_all A marked reads);
            }
