-- The laws of a walk over rows, for every fold: what the fold has at a row of each kind, and how a loop over the
-- expressions under a row joins their values one after another, each found at the end of the one before.
use Prim.Native.Nat.{ℕ, zero, suc, ◌+◌, ◌-◌, ◌*◌, ◌<◌, ◌≤◌}
use native.Mathlib.Omega.{arith}
use native.Mathlib.Numerals.{sub-one}
use mathlib.Core.Path.{◌≡◌, refl, sym, ap, ◌∙◌}
use mathlib.Core.Logic.{◌⊎◌, inl, inr}
use mathlib.Core.Bool.{Bool, true, false, true≢false}
use mathlib.Core.List.{List, []}
use lib.ListN.{length}
use lib.Dec.{eqb}
use borrow.Author.Tests.{ne_eqb}
use Rattle.paper.specs.Limits.{most_rows}
use Rattle.paper.specs.declared.Label.{Label}
use Rattle.paper.specs.Formula.{ℓ, 𝓋, Formula}
use Rattle.paper.specs.Inside.Structure.Fold.{Fold, fold_of, fold_all}
use Rattle.rows.specs.Rows.{kind_of, arg_of, end_of, form_of, meets}
use Rattle.rows.specs.declared.form.Form.{Form}
use Rattle.rows.specs.declared.form.Form.TheVariants as form
use Rattle.rows.specs.Formula.{star_at, children_at, node_at, formula_at}
use Rattle.rows.specs.Inside.Walk.{expressions, first_under, is_conjunction, expressions_at, first_at, Shaped, Walkable, Stand}
use Rattle.rows.specs.Inside.Walk.{skeleton_at, value_at, joined_from}
use Rattle.rows.proofs.Forms.{by_form}
use Rattle.rows.proofs.Rules.{number_of}
use Rattle.rows.proofs.Meets.{Child, child}

module _ {A : Type 0} (r : Fold A) (rows : List ℕ) where
  -- no level left
  pub value_none : (left i : ℕ) → left ≡ 0 → value_at r rows left i ≡ r.at_false (ℓ i)
  unfolding value_at formula_at
  value_none left i e = rw e

  -- row i, which is of form f, its children being read with one level less
  value-node : (left i : ℕ) {f : Form} → (left ≡ 0 → ⊥) → f ≡ form_of (kind_of rows i)
      → value_at r rows left i ≡ fold_of r (node_at rows [] (skeleton_at rows (left - 1)) i f)
  unfolding value_at formula_at
  value-node zero i deep e = absurd (deep refl)
  value-node (suc left) i deep e = rw (sub-one (suc left), e)

  -- the leaves
  pub value-lone : {left i : ℕ} {f : Form} {a : A} → (left ≡ 0 → ⊥) → f ≡ form_of (kind_of rows i)
      → ((f ≡ form.False) ⊎ ((f ≡ form.Star) ⊎ (f ≡ form.Unknown))) → a ≡ r.at_false (ℓ i) → a ≡ r.at_test (ℓ i) → a ≡ value_at r rows left i
  unfolding node_at star_at
  value-lone deep e (inl g) d d' = d ∙ sym (value-node _ _ deep (sym g ∙ e))
  value-lone deep e (inr (inl g)) d d' = d' ∙ sym (value-node _ _ deep (sym g ∙ e))
  value-lone deep e (inr (inr g)) d d' = d ∙ sym (value-node _ _ deep (sym g ∙ e))

  pub value-candidate : {left i : ℕ} {f : Form} {a : A} → (left ≡ 0 → ⊥) → f ≡ form_of (kind_of rows i)
      → f ≡ form.Candidate → a ≡ r.at_candidate (ℓ i) (𝓋 (arg_of rows i)) → a ≡ value_at r rows left i
  unfolding node_at
  value-candidate deep e g d = d ∙ sym (value-node _ _ deep (sym g ∙ e))

  -- the children of a conjunction or disjunction, of which there is one or more
  read-children : (left : ℕ) (c : Bool) (a : A) (more i : ℕ)
      → fold_all r c a (children_at rows [] (skeleton_at rows left) more i) ≡ joined_from r rows left c a (suc more) i
  unfolding value_at joined_from children_at
  read-children left c a zero i = refl
  read-children left c a (suc more) i = read-children left c (r.join c a (fold_of r (skeleton_at rows left i))) more (end_of rows i)

  read_all : (left : ℕ) (c : Bool) (m i : ℕ) → 0 < m
      → fold_all r c (r.unit c) (children_at rows [] (skeleton_at rows left) (m - 1) i) ≡ joined_from r rows left c (r.unit c) m i
  read_all left c zero i some = absurd (omega arith)
  read_all left c (suc m) i some = rw (sub-one (suc m)) (read-children left c (r.unit c) m i)

  -- a row of a form with expressions under it is read by joining them
  abbrev Joins : ℕ → ℕ → ℕ → Form → Type 0
  Joins left i k f =
      0 < expressions f (arg_of rows i)
      → fold_of r (node_at rows [] (skeleton_at rows left) i f)
      ≡ joined_from r rows left (eqb k 3) (r.unit (eqb k 3)) (expressions f (arg_of rows i)) (first_under f i)

  joins : (left i k : ℕ) → Joins left i k (form_of k)
  unfolding node_at value_at joined_from
  joins left i k =
      by_form (Joins left i k) k
      (λ e some. absurd (omega arith))
      (λ e some. absurd (omega arith))
      (λ e some. absurd (omega arith))
      (λ e some. rw e (read_all left true (arg_of rows i) (i + 1) some))
      (λ e some. rw e (read_all left false (arg_of rows i) (i + 1) some))
      (λ e some. rw e)
      (λ e some. rw e)
      (λ e some. absurd (omega arith))

  pub value-join : (left i : ℕ) → (left ≡ 0 → ⊥) → 0 < expressions_at rows i
      → value_at r rows left i ≡ joined_from r rows (left - 1) (eqb (kind_of rows i) 3) (r.unit (eqb (kind_of rows i) 3))
      (expressions_at rows i) (first_at rows i)
  value-join left i deep some = value-node left i deep refl ∙ joins (left - 1) i (kind_of rows i) some

  -- one more expression, and no more
  pub joined_step : (left : ℕ) (c : Bool) (a : A) (m i : ℕ) → 0 < m
      → joined_from r rows left c a m i ≡ joined_from r rows left c (r.join c a (value_at r rows left i)) (m - 1) (end_of rows i)
  unfolding joined_from
  joined_step left c a zero i some = absurd (omega arith)
  joined_step left c a (suc m) i some = rw (sub-one (suc m))

  pub joined_end : (left : ℕ) (c : Bool) (a : A) (m i : ℕ) → m ≡ 0 → joined_from r rows left c a m i ≡ a
  unfolding joined_from
  joined_end left c a m i e = rw e

  -- No fold looks at what stars read: rows are read alike whatever the reads are.
  module _ (reads : List ℕ) where
    children-alike : (f g : ℕ → Formula) → ((j : ℕ) → fold_of r (f j) ≡ fold_of r (g j)) → (c : Bool) (a : A) (more i : ℕ)
        → fold_all r c a (children_at rows reads f more i) ≡ fold_all r c a (children_at rows [] g more i)
    unfolding children_at
    children-alike f g alike c a zero i = ap (r.join c a) (alike i)
    children-alike f g alike c a (suc more) i = rw (alike i) (children-alike f g alike c (r.join c a (fold_of r (g i))) more (end_of rows i))

    node_alike : (f g : ℕ → Formula) → ((j : ℕ) → fold_of r (f j) ≡ fold_of r (g j)) → (i : ℕ) (F : Form)
        → fold_of r (node_at rows reads f i F) ≡ fold_of r (node_at rows [] g i F)
    unfolding node_at star_at
    node_alike f g alike i form.False = refl
    node_alike f g alike i form.Star = refl
    node_alike f g alike i form.Candidate = refl
    node_alike f g alike i form.Conjunction = children-alike f g alike true (r.unit true) (arg_of rows i - 1) (i + 1)
    node_alike f g alike i form.Disjunction = children-alike f g alike false (r.unit false) (arg_of rows i - 1) (i + 1)
    node_alike f g alike i form.Exists = ap (r.join false (r.unit false)) (alike (i + 2))
    node_alike f g alike i form.If = let d = alike (i + 2) in let e = alike (end_of rows (i + 2)) in cc
    node_alike f g alike i form.Unknown = refl

    pub value_read : (left i : ℕ) → fold_of r (formula_at rows reads left i) ≡ value_at r rows left i
    unfolding formula_at value_at
    value_read zero i = refl
    value_read (suc left) i = node_alike (formula_at rows reads left) (skeleton_at rows left) (λ j. value_read left j) i (form_of (kind_of rows i))

-- the first of m children that meet `stop`, and the others from its end on
pub first-child : (rows : List ℕ) (stop k m : ℕ) → 0 < m → meets rows stop k m ≡ true → Child rows stop k (m - 1)
first-child rows stop k zero some e = absurd (omega arith)
first-child rows stop k (suc m) some e = rw (sub-one (suc m)) (child rows stop k m e)

-- what a walk knows of the row that it stands at: its words are there, and its kind word is known
pub row-there : {rows : List ℕ} {#N i : ℕ} → Walkable rows #N i → 4 * i + 4 ≤ length rows
row-there w = let room = w.shaped.room in omega arith

pub row-few : {rows : List ℕ} {#N i : ℕ} → Walkable rows #N i → i < most_rows
row-few w = let few = w.shaped.few in omega arith

pub row-known : {rows : List ℕ} {#N i : ℕ} → Walkable rows #N i → kind_of rows i < 7
row-known {i = i} w = w.shaped.known i w.here

-- m expressions stand from row k on, each at the end of the one before, within #N rows that a walk can go over
pub record Along (rows : List ℕ) (#N m k : ℕ) : Type 0 where
  pub shaped : Shaped rows #N
  pub stop : ℕ
  pub within : stop ≤ #N
  pub meet : meets rows stop k m ≡ true

module _ {rows : List ℕ} {#N : ℕ} where
  -- those under a row
  pub along_under : {i : ℕ} → Walkable rows #N i → Along rows #N (expressions_at rows i) (first_at rows i)
  along_under {i = i} w = record { shaped = w.shaped; stop = end_of rows i; within = w.shaped.within i w.here; meet = w.shaped.under i w.here }

  -- a walk can stand at the first of them, and the others go on from its end
  module _ {m k : ℕ} (a : Along rows #N m k) (some : 0 < m) where
    pub along-on : Walkable rows #N k
    along-on = let c = first-child rows a.stop k m some a.meet in let w = a.within in record { shaped = a.shaped; here = omega arith }

    pub along-next : Along rows #N (m - 1) (end_of rows k)
    along-next = record { shaped = a.shaped; stop = a.stop; within = a.within; meet = (first-child rows a.stop k m some a.meet).others }

  -- and all of them have their words
  pub along-stand : (m : ℕ) {k : ℕ} → Along rows #N m k → Stand rows m k
  along-stand zero a = tt
  along-stand (suc m) a = (row-there (along-on a (omega arith)), along-stand m (rw (sub-one (suc m)) at (along-next a (omega arith))))

-- the forms with expressions under them, and their kind words
abbrev pub IsJoin : Form → Type 0
IsJoin f = (f ≡ form.Conjunction) ⊎ ((f ≡ form.Disjunction) ⊎ ((f ≡ form.Exists) ⊎ (f ≡ form.If)))

abbrev is_leaf : Form → Bool
is_leaf form.False = true
is_leaf form.Star = true
is_leaf form.Candidate = true
is_leaf form.Conjunction = false
is_leaf form.Disjunction = false
is_leaf form.Exists = false
is_leaf form.If = false
is_leaf form.Unknown = false

no-leaf : {f : Form} → IsJoin f → is_leaf f ≡ false
no-leaf (inl e) = ap is_leaf e
no-leaf (inr (inl e)) = ap is_leaf e
no-leaf (inr (inr (inl e))) = ap is_leaf e
no-leaf (inr (inr (inr e))) = ap is_leaf e

pub join-kind : {k : ℕ} {f : Form} → f ≡ form_of k → IsJoin f → 2 < k
join-kind {k} e join =
    by_form (λ f. is_leaf f ≡ false → 2 < k) k (λ e h. absurd (true≢false h)) (λ e h. absurd (true≢false h)) (λ e h. absurd (true≢false h))
    (λ e h. omega arith) (λ e h. omega arith) (λ e h. omega arith) (λ e h. omega arith) (λ g h. omega arith)
    (ap is_leaf (sym e) ∙ no-leaf join)

conjunction-kind : (k : ℕ) → is_conjunction (form_of k) ≡ eqb k 3
conjunction-kind k =
    by_form (λ f. is_conjunction f ≡ eqb k 3) k (λ e. rw e) (λ e. rw e) (λ e. rw e) (λ e. rw e) (λ e. rw e) (λ e. rw e) (λ e. rw e)
    (λ h. sym (ne_eqb k 3 (λ e. omega arith)))

-- The invariant of a loop over the expressions under row i, which is read `left` levels deep at most: a is what those passed
-- joined to, m are still to come, and the next stands at label k. Joined to a, those give the value at the row.
pub record Walking {A : Type 0} (r : Fold A) (rows : List ℕ) (#N left i : ℕ) (c : Bool) (a : A) (m : ℕ) (k : Label) : Type 0 where
  pub along : Along rows #N m k.0
  pub value : joined_from r rows (left - 1) c a m k.0 ≡ value_at r rows left i

module _ {A : Type 0} {r : Fold A} {rows : List ℕ} {#N left i : ℕ} where
  -- it holds as the loop begins
  pub walk_begins : {f : Form} {c : Bool} {a : A} {m : ℕ} {k : Label} → Walkable rows #N i → (left ≡ 0 → ⊥) → f ≡ form_of (kind_of rows i) → IsJoin f
      → c ≡ is_conjunction f → a ≡ r.unit c → m ≡ expressions_at rows i → k ≡ ℓ (first_at rows i) → Walking r rows #N left i c a m k
  walk_begins w deep is join d e all g =
      let some = w.shaped.joined i w.here (join-kind is join) in
      record {
        along = rw (all, number_of g) (along_under w);
        value = rw (all, number_of g, e, d, is, conjunction-kind (kind_of rows i)) (sym (value-join r rows left i deep some));
      }

  module _ {c : Bool} {a : A} {m : ℕ} {k : Label} (s : Walking r rows #N left i c a m k) where
    module _ (some : 0 < m) where
      -- in a turn the walk can go on at the next one
      pub walk-on : {next : Label} → next ≡ k → Walkable rows #N next.0
      walk-on here = rw here (along-on s.along some)

      -- and after it, with the value at k joined and k moved to its end, it holds again
      pub walk-turns : {next : Label} {b a' : A} {m' : ℕ} {k' : Label} → next ≡ k → b ≡ value_at r rows (left - 1) next.0 → a' ≡ r.join c a b
          → m' ≡ m - 1 → k' ≡ ℓ (end_of rows k.0) → Walking r rows #N left i c a' m' k'
      walk-turns here d e one_less f =
          record {
            along = rw (one_less, number_of f) (along-next s.along some);
            value = rw (one_less, number_of f, e, d, here) (sym (joined_step r rows (left - 1) c a m k.0 some) ∙ s.value);
          }

    -- with no expression left, what is joined is the value at the row
    pub walk_ends : m ≡ 0 → a ≡ value_at r rows left i
    walk_ends done = sym (joined_end r rows (left - 1) c a m k.0 done) ∙ s.value
