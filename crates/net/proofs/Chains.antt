-- The chains of chosen labels, made from the last label down: from index k on, each label has the index of the next one of
-- its variable, and each variable the index of its first label from k on.
use Prim.Native.Nat.{ℕ, suc, ◌+◌, ◌-◌, ◌<◌, ◌≤◌}
use native.Mathlib.Omega.{arith}
use mathlib.Core.Path.{◌≡◌, refl, sym, ap, ◌∙◌}
use mathlib.Core.Bool.{Bool, false}
use mathlib.Core.List.{List}
use lib.Dec.{eqb}
use lib.ListN.{length, get_or, set, replicate, length-set, length-replicate, get_or-replicate, get_or-eq_default}
use lib.Seq.{get_or-set_other}
use borrow.Author.Tests.{eq-eqb, ne_eqb}
use Rattle.paper.specs.Limits.{most_variables, slots}
use Rattle.paper.proofs.Tests.{at_set}
use Rattle.entries.specs.First.{first}
use Rattle.rows.specs.Rows.{arg_of}
use Rattle.entries.proofs.First.{first_found, first-none, first-same}
use Rattle.net.specs.Inside.Net.{Words, first_with, next_with}

-- a search that passed one index goes on with the rest
passed-one : (bad : ℕ → Bool) (n : ℕ) → bad 0 ≡ false → first bad (suc n) ≡ suc (first (λ k. bad (suc k)) n)
unfolding first
passed-one bad n e = rw e

module _ (rows chosen : List ℕ) where
  -- the variable of the k-th chosen label
  abbrev pub variable_at : ℕ → ℕ
  variable_at k = arg_of rows (get_or chosen k 0)

  -- past the last label there is none; else the first from index k on is k itself, or the first from k + 1 on
  first_past : (v k : ℕ) → k ≡ length chosen → first_with rows chosen v k ≡ k
  unfolding first_with
  first_past v k e = let f = first-none (λ m. eqb (variable_at (k + m)) v) (length chosen - k) (λ m b. absurd (omega arith)) in omega arith

  first-here : (v k : ℕ) → k < length chosen → variable_at k ≡ v → first_with rows chosen v k ≡ k
  unfolding first_with
  first-here v k h e =
      let z : k + 0 ≡ k = omega arith in
      let at = eq-eqb _ v (ap variable_at z ∙ e) in
      let f = first_found (λ m. eqb (variable_at (k + m)) v) (length chosen - k) 0 (λ m b. absurd (omega arith)) (omega arith) at in
      omega arith

  first-further : (v k : ℕ) → k < length chosen → (variable_at k ≡ v → ⊥) → first_with rows chosen v k ≡ first_with rows chosen v (k + 1)
  unfolding first_with
  first-further v k h d =
      let z : k + 0 ≡ k = omega arith in
      let l : length chosen - k ≡ suc (length chosen - (k + 1)) = omega arith in
      let o = passed-one (λ m. eqb (variable_at (k + m)) v) (length chosen - (k + 1)) (ne_eqb _ v (λ e. d (ap variable_at (sym z) ∙ e))) in
      let s = first-same (λ m. eqb (variable_at (k + suc m)) v) (λ m. eqb (variable_at (k + 1 + m)) v) (length chosen - (k + 1))
      (λ m b. let e : k + suc m ≡ k + 1 + m = omega arith in ap (λ i. eqb (variable_at i) v) e) in
      rw l (omega arith)

  -- the labels from index k on are linked
  pub record Linked (old : List ℕ) (k : ℕ) (ns fs : List ℕ) : Type 0 where
    pub long : length ns ≡ slots
    pub wide : length fs ≡ most_variables
    pub nexts : (j : ℕ) → k ≤ j → j < length chosen → get_or ns j 0 ≡ next_with rows chosen j
    pub others : (j : ℕ) → length chosen ≤ j → get_or ns j 0 ≡ get_or old j 0
    pub firsts : (v : ℕ) → v < most_variables → get_or fs v 0 ≡ first_with rows chosen v k

  -- none is, and all are
  pub linked-none : {ns fs : List ℕ} {#L : ℕ} → length ns ≡ slots → #L ≡ most_variables → fs ≡ replicate #L (length chosen)
      → Linked ns (length chosen) ns fs
  linked-none {#L = #L} long same e = record {
    long = long;
    wide = ap length e ∙ length-replicate {A = ℕ} #L (length chosen) ∙ same;
    nexts = λ j h k. absurd (omega arith);
    others = λ j h. refl;
    firsts = λ v h. ap (λ l. get_or l v 0) e ∙ get_or-replicate {A = ℕ} #L v (length chosen) 0 (omega arith) ∙ sym (first_past v (length chosen) refl);
  }

  pub linked-all : {k : ℕ} {old ns before fs : List ℕ} → Linked old k ns fs → k ≡ 0 → length before ≡ most_variables
      → Words slots (next_with rows chosen) 0 (length chosen) old ns × Words most_variables (λ v. first_with rows chosen v 0) 0 most_variables before fs
  linked-all {before = before} {fs = fs} l e size = (
    record { size = l.long; given = λ j a h. l.nexts j (omega arith) h; before = λ j h. absurd (omega arith); behind = l.others },
    record {
      size = l.wide;
      given = λ v a h. l.firsts v h ∙ ap (first_with rows chosen v) e;
      before = λ v h. absurd (omega arith);
      behind = λ v h. get_or-eq_default fs 0 (omega (arith, l.wide)) ∙ sym (get_or-eq_default before 0 (omega arith));
    },
  )

  -- one more label is: it has its variable's first from there on as its next, and is its variable's first itself
  module _ (m k v : ℕ) {old ns fs : List ℕ} (l : Linked old m ns fs) (next : m ≡ k + 1) (within : m ≤ length chosen) (small : length chosen ≤ slots)
      (of : v ≡ variable_at k) (low : v < most_variables) where
    pub linked-more : Linked old k (set ns k (get_or fs v 0)) (set fs v k)
    linked-more = record {
      long = length-set ns k (get_or fs v 0) ∙ l.long;
      wide = length-set fs v k ∙ l.wide;
      nexts = λ j h b. at_set ns k (get_or fs v 0) (omega (arith, l.long)) (λ z. z ≡ next_with rows chosen j) j (here j) (λ q. l.nexts j (omega arith) b);
      others = λ j h. get_or-set_other ns k j (get_or fs v 0) 0 (λ q. omega arith) ∙ l.others j h;
      firsts = λ u h. at_set fs v k (omega (arith, l.wide)) (λ z. z ≡ first_with rows chosen u k) u
          (λ q. sym (first-here u k (omega arith) (sym of ∙ sym q)))
          (λ q. l.firsts u h ∙ ap (first_with rows chosen u) next ∙ sym (first-further u k (omega arith) (λ e. q (sym e ∙ sym of))));
    }
      where
        here : (j : ℕ) → j ≡ k → get_or fs v 0 ≡ next_with rows chosen j
        here j q =
            l.firsts v low ∙ ap (λ u. first_with rows chosen u m) of ∙ ap (first_with rows chosen (variable_at k)) next ∙ ap (next_with rows chosen) (sym q)
