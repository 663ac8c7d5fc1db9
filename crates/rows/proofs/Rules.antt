-- The rules of one row, taken apart: what they say of a row by its form, once they hold; and how they fail or come down to
-- the form's own rule.
use Prim.Native.Nat.{ℕ, suc, ◌+◌, ◌-◌, ◌<◌, ◌≤◌}
use native.Mathlib.Omega.{arith}
use mathlib.Core.Path.{◌≡◌, sym, ap, subst}
use mathlib.Core.Bool.{Bool, true, false, cond, ◌&&◌, and-false, false≢true}
use mathlib.Core.List.{List}
use lib.ListN.{length, take, drop, length-drop}
use lib.Seq.{take_all}
use lib.Dec.{ltb, leb, eqb}
use borrow.Author.Tests.{ltb-true, leb-true, eqb-true, eq-eqb, ne_eqb}
use Rattle.paper.specs.declared.Label.{Label}
use Rattle.paper.specs.Formula.{ℓ}
use Rattle.std.proofs.lemmas.Bool.{and_parts}
use Rattle.paper.proofs.Bools.{and_left}
use Rattle.entries.specs.First.{first}
use Rattle.rows.specs.Rows.{kind_of, arg_of, end_of, from_of, form_of}
use Rattle.rows.specs.declared.form.Form.{Form}
use Rattle.rows.specs.declared.form.Form.TheVariants as form
use Rattle.rows.specs.Rows.{meets, taken_before, guarded, false_rule, star_rule, candidate_rule, join_rule, bound_rule, keeps_form, ends_within, keeps_rules}
use Rattle.entries.specs.Entries.{falls, ascend}
use Rattle.rows.proofs.Forms.{by_form}
use Rattle.rows.proofs.Meets.{of-no-child}

-- the number of a label
pub number_of : {l : Label} {n : ℕ} → l ≡ ℓ n → l.0 ≡ n
number_of e = ap (λ (l : Label). l.0) e

-- so many fewer, and one fewer still
pub less_one : (m i : ℕ) → m - (i + 1) ≡ m - i - 1
less_one m i = omega arith

-- the part that is lent by `&reads[from..]`
pub rest : (ws : List ℕ) (a : ℕ) → take (length ws - a) (drop a ws) ≡ drop a ws
rest ws a = take_all (length ws - a) (drop a ws) (simp length-drop (omega arith))

-- the kind word of a form
pub data KindIs (k : ℕ) : Form → Type 0 where
  is-FALSE : k ≡ 0 → KindIs k form.False
  is-star : k ≡ 1 → KindIs k form.Star
  is-candidate : k ≡ 2 → KindIs k form.Candidate
  is-conjunction : k ≡ 3 → KindIs k form.Conjunction
  is-disjunction : k ≡ 4 → KindIs k form.Disjunction
  is-exists : k ≡ 5 → KindIs k form.Exists
  is-IF : k ≡ 6 → KindIs k form.If
  is_none : 6 < k → KindIs k form.Unknown

pub kind_is : (k : ℕ) → KindIs k (form_of k)
kind_is k = by_form (KindIs k) k is-FALSE is-star is-candidate is-conjunction is-disjunction is-exists is-IF is_none

pub star-form : (k : ℕ) → k ≡ 1 → form_of k ≡ form.Star
unfolding form_of
star-form k e = rw e

-- and no other word names a star
pub star-kind : (k : ℕ) → form_of k ≡ form.Star → k ≡ 1
star-kind k e = named (subst (KindIs k) e (kind_is k))
  where
    named : KindIs k form.Star → k ≡ 1
    named (is-star p) = p

pub candidate-form : (k : ℕ) → k ≡ 2 → form_of k ≡ form.Candidate
unfolding form_of
candidate-form k e = rw e

-- a kind word that is none of the seven is no form's
pub no-form : (k : ℕ) → (k ≡ 0 → ⊥) → (k ≡ 1 → ⊥) → (k ≡ 2 → ⊥) → (k ≡ 3 → ⊥) → (k ≡ 4 → ⊥) → (k ≡ 5 → ⊥) → (k ≡ 6 → ⊥) → form_of k ≡ form.Unknown
unfolding form_of
no-form k a b c d e f g = simp (ne_eqb k 0 a, ne_eqb k 1 b, ne_eqb k 2 c, ne_eqb k 3 d, ne_eqb k 4 e, ne_eqb k 5 f, ne_eqb k 6 g)

module _ (rows : List ℕ) (i m : ℕ) where
  -- the first child is asked for its form
  pub guarded_by : form_of (kind_of rows (i + 1)) ≡ form.Star → guarded rows i m ≡ meets rows (end_of rows i) (i + 1) m
  guarded_by e = simp (star-kind (kind_of rows (i + 1)) e)

  pub unguarded : (kind_of rows (i + 1) ≡ 1 → ⊥) → guarded rows i m ≡ false
  unguarded apart = simp (ne_eqb (kind_of rows (i + 1)) 1 apart)

module _ (rows : List ℕ) where
  -- a conjunction or disjunction
  pub record JoinSays (i : ℕ) : Type 0 where
    pub some : arg_of rows i ≡ suc (arg_of rows i - 1)
    pub meet : meets rows (end_of rows i) (i + 1) (suc (arg_of rows i - 1)) ≡ true

  join-says : (i : ℕ) → join_rule rows i ≡ true → JoinSays i
  unfolding join_rule
  join-says i h =
      let (z, m) = and_parts (ltb 0 (arg_of rows i)) (meets rows (end_of rows i) (i + 1) (arg_of rows i)) h in
      let pos = ltb-true 0 (arg_of rows i) z in
      let e : arg_of rows i ≡ suc (arg_of rows i - 1) = omega arith in
      record { some = e; meet = subst (λ n. meets rows (end_of rows i) (i + 1) n ≡ true) e m }

  -- a row of m children, of which the first is a star
  pub record Guards (i m : ℕ) : Type 0 where
    pub star : kind_of rows (i + 1) ≡ 1
    pub meet : meets rows (end_of rows i) (i + 1) m ≡ true

  guard-says : (i m : ℕ) → guarded rows i m ≡ true → Guards i m
  guard-says i m h =
      let (k, e) = and_parts (eqb (kind_of rows (i + 1)) 1) (meets rows (end_of rows i) (i + 1) m) h in
      record { star = eqb-true (kind_of rows (i + 1)) 1 k; meet = e }

  bound-says : (i m : ℕ) → bound_rule rows i m ≡ true → (arg_of rows i ≡ 0) × Guards i m
  unfolding bound_rule
  bound-says i m h =
      let (z, g) = and_parts (eqb (arg_of rows i) 0) (guarded rows i m) h in
      (eqb-true (arg_of rows i) 0 z, guard-says i m g)

module _ (rows reads : List ℕ) where
  -- a star
  pub record StarSays (i : ℕ) : Type 0 where
    pub ends : end_of rows i ≡ i + 1
    pub there : arg_of rows i ≤ length (drop (from_of rows i) reads)
    pub ascends : first (falls (drop (from_of rows i) reads)) (arg_of rows i) ≡ arg_of rows i

  star-says : (i : ℕ) → star_rule rows reads i ≡ true → StarSays i
  unfolding star_rule ascend
  star-says i h =
      let ws = drop (from_of rows i) reads in
      let arg = arg_of rows i in
      let (e, h₁) = and_parts (eqb (end_of rows i) (i + 1)) (leb arg (length ws) && eqb (first (falls ws) arg) arg) h in
      let (l, f) = and_parts (leb arg (length ws)) (eqb (first (falls ws) arg) arg) h₁ in
      record { ends = eqb-true (end_of rows i) (i + 1) e; there = leb-true arg (length ws) l; ascends = eqb-true (first (falls ws) arg) arg f }

-- the end of a row is within the rows
pub ends-le : (#N i end : ℕ) → ends_within #N i end ≡ true → end ≤ #N
unfolding ends_within
ends-le #N i end e = either (eqb i 0) e
  where
    either : (b : Bool) → cond b (eqb end #N) (leb end #N) ≡ true → end ≤ #N
    either true e = omega (arith, eqb-true end #N e)
    either false e = leb-true end #N e

module _ (rows reads : List ℕ) (#V : ℕ) where
  -- what the rule of a form says of row i
  abbrev pub Says : ℕ → Form → Type 0
  Says i form.False = (arg_of rows i ≡ 0) × (end_of rows i ≡ i + 1)
  Says i form.Star = StarSays rows reads i
  Says i form.Candidate = (arg_of rows i < #V) × Guards rows i 1
  Says i form.Conjunction = JoinSays rows i
  Says i form.Disjunction = JoinSays rows i
  Says i form.Exists = (arg_of rows i ≡ 0) × Guards rows i 2
  Says i form.If = (arg_of rows i ≡ 0) × Guards rows i 3
  Says i form.Unknown = ⊥

  form-says : (i : ℕ) (F : Form) → keeps_form rows reads #V i F ≡ true → Says i F
  unfolding false_rule candidate_rule
  form-says i form.False h =
      let (z, e) = and_parts (eqb (arg_of rows i) 0) (eqb (end_of rows i) (i + 1)) h in
      (eqb-true (arg_of rows i) 0 z, eqb-true (end_of rows i) (i + 1) e)
  form-says i form.Star h = star-says rows reads i h
  form-says i form.Candidate h =
      let (l, g) = and_parts (ltb (arg_of rows i) #V) (guarded rows i 1) h in
      (ltb-true (arg_of rows i) #V l, guard-says rows i 1 g)
  form-says i form.Conjunction h = join-says rows i h
  form-says i form.Disjunction h = join-says rows i h
  form-says i form.Exists h = bound-says rows i 2 h
  form-says i form.If h = bound-says rows i 3 h
  form-says i form.Unknown h = false≢true h

  -- its children meet its end
  pub children-meet : (i : ℕ) (F : Form) → Says i F → (m : ℕ) × (meets rows (end_of rows i) (i + 1) m ≡ true)
  children-meet i form.False s = (0, of-no-child rows (end_of rows i) (i + 1) (sym s.1))
  children-meet i form.Star s = (0, of-no-child rows (end_of rows i) (i + 1) (sym s.ends))
  children-meet i form.Candidate s = (1, s.1.meet)
  children-meet i form.Conjunction s = (suc (arg_of rows i - 1), s.meet)
  children-meet i form.Disjunction s = (suc (arg_of rows i - 1), s.meet)
  children-meet i form.Exists s = (2, s.1.meet)
  children-meet i form.If s = (3, s.1.meet)
  children-meet i form.Unknown s = absurd s

  -- what a row that keeps its rules shows
  pub record Kept (#N i : ℕ) : Type 0 where
    pub within : end_of rows i ≤ #N
    pub from_is : from_of rows i ≡ taken_before rows i
    pub form_keeps : keeps_form rows reads #V i (form_of (kind_of rows i)) ≡ true
    pub says : Says i (form_of (kind_of rows i))

  module _ (#N : ℕ) where
    pub kept : (i : ℕ) → keeps_rules rows reads #V #N i ≡ true → Kept #N i
    unfolding keeps_rules
    kept i e =
        let (a, h) = and_parts (ends_within #N i (end_of rows i)) _ e in
        let (b, k) = and_parts (eqb (from_of rows i) (taken_before rows i)) _ h in
        record { within = ends-le #N i (end_of rows i) a; from_is = eqb-true _ _ b; form_keeps = k; says = form-says i (form_of (kind_of rows i)) k }

    -- the subtree of row 0 is all rows
    pub root_ends : keeps_rules rows reads #V #N 0 ≡ true → end_of rows 0 ≡ #N
    unfolding keeps_rules ends_within
    root_ends e = eqb-true (end_of rows 0) #N (and_left (ends_within #N 0 (end_of rows 0)) _ e)

    -- the three parts of the rules, in their order: where one fails, where all but the last hold
    pub ends-badly : (i : ℕ) → ends_within #N i (end_of rows i) ≡ false → keeps_rules rows reads #V #N i ≡ false
    unfolding keeps_rules
    ends-badly i e = rw e

    pub from-elsewhere : (i : ℕ) → (from_of rows i ≡ taken_before rows i → ⊥) → keeps_rules rows reads #V #N i ≡ false
    unfolding keeps_rules
    from-elsewhere i h = simp (ne_eqb (from_of rows i) (taken_before rows i) h, and-false)

    pub by_kind : (i k : ℕ) → ends_within #N i (end_of rows i) ≡ true → from_of rows i ≡ taken_before rows i → kind_of rows i ≡ k
        → keeps_rules rows reads #V #N i ≡ keeps_form rows reads #V i (form_of k)
    unfolding keeps_rules
    by_kind i k e f g = simp (e, eq-eqb (from_of rows i) (taken_before rows i) f, g)
