-- Of a formula that sound rows write, each star's reads ascend and are variables, and each candidate assigns one.
use Prim.Native.Nat.{ℕ, ◌+◌, ◌<◌, ◌≤◌}
use native.Mathlib.Omega.{arith}
use mathlib.Core.Path.{◌≡◌, subst}
use mathlib.Core.Bool.{true}
use mathlib.Core.List.Memᴰ
use mathlib.Core.List.{List, ◌++◌, Memᴰ}
use lib.ListN.{length, take, drop, length-append, take-append-drop}
use Rattle.paper.specs.Formula.{Star, Candidate, Formula, Formulas, FALSE, test, candidate, conjunction, disjunction, exists}
use Rattle.paper.specs.Formula.{IF, only, ◌⨾◌, labels, labels_of, stars, stars_of, candidates, candidates_of}
use Rattle.rows.specs.Rows.{kind_of, arg_of, from_of, keeps_rules}
use Rattle.written.specs.Written.{read_words, size, taken_reads, Ascend}
use Rattle.written.proofs.Words.{Each, each_none, each-cons, each_append, to-ascend}
use Rattle.written.proofs.Writes.{RowIs, StarIs, Writes, WritesAll}
use Rattle.rows.proofs.Rules.{star-form, candidate-form, StarSays, Says, kept}
use Rattle.written.proofs.WritesWords.{star-words}

-- A claim of each star and a claim of each candidate of a formula, where they hold of what its rows write.
module _ (rows reads : List ℕ) (P : Star → Type 0) (Q : Candidate → Type 0) (end : ℕ)
    (star-is : (s : Star) (i t : ℕ) → i < end → StarIs rows reads s i t → P s)
    (candidate-is : (c : Candidate) (i last t : ℕ) → i < end → RowIs rows reads i 2 c.variable.0 last t → Q c) where
  joined : (f : Formula) {ss : List Star} {cs : List Candidate} → Each P (stars f) × Each Q (candidates f) → Each P ss × Each Q cs
      → Each P (stars f ++ ss) × Each Q (candidates f ++ cs)
  joined f a b = (each_append P (stars f) a.0 b.0, each_append Q (candidates f) a.1 b.1)

  mutual
    pub each_part : (f : Formula) (i t : ℕ) → i + size f ≤ end → Writes rows reads f i t → Each P (stars f) × Each Q (candidates f)
    each_part (FALSE l) i t h w = (each_none P, each_none Q)
    each_part (test s) i t h w = (each-cons P (star-is s i t (omega arith) w) (each_none P), each_none Q)
    each_part (candidate l v s) i t h w = (
      each-cons P (star-is s (i + 1) t (omega arith) w.2) (each_none P),
      each-cons Q (candidate-is (record { label = l; variable = v }) i (i + 2) t (omega arith) w.1) (each_none Q),
    )
    each_part (conjunction l fs) i t h w = each-part-of fs (i + 1) t (omega arith) w.2
    each_part (disjunction l fs) i t h w = each-part-of fs (i + 1) t (omega arith) w.2
    each_part (exists l s f) i t h w =
        let a = each_part f (i + 2) (t + length s.reads) (omega arith) w.3 in
        (each-cons P (star-is s (i + 1) t (omega arith) w.2) a.0, a.1)
    each_part (IF l s f g) i t h w =
        let u = t + length s.reads in
        let n = length-append (labels f) (labels g) in
        let a = each_part f (i + 2) u (omega arith) w.3 in
        let b = joined f a (each_part g (i + 2 + size f) (u + length (taken_reads f)) (omega arith) w.4) in
        (each-cons P (star-is s (i + 1) t (omega arith) w.2) b.0, b.1)

    each-part-of : (fs : Formulas) (i t : ℕ) → i + length (labels_of fs) ≤ end → WritesAll rows reads fs i t
        → Each P (stars_of fs) × Each Q (candidates_of fs)
    each-part-of (only f) i t h w = each_part f i t h w
    each-part-of (f ⨾ fs) i t h w =
        let n = length-append (labels f) (labels_of fs) in
        joined f (each_part f i t (omega arith) w.0) (each-part-of fs (i + size f) (t + length (taken_reads f)) (omega arith) w.1)

part-mem : (m n : ℕ) (ws : List ℕ) {w : ℕ} → Memᴰ w (take m (drop n ws)) → Memᴰ w ws
part-mem m n ws {w} t =
    subst (Memᴰ w) (take-append-drop n ws) (Memᴰ.append_right (take n ws)
    (subst (Memᴰ w) (take-append-drop m (drop n ws)) (Memᴰ.append_left (drop m (drop n ws)) t)))

-- What a formula has of the bounds of a table with #V names.
pub record FormulaWithin (#V : ℕ) (f : Formula) : Type 0 where
  pub reads_ascend : Each (λ s. Ascend (read_words s)) (stars f)
  pub reads_below : Each (λ s. Each (λ v. v.0 < #V) s.reads) (stars f)
  pub assigned_below : Each (λ c. c.variable.0 < #V) (candidates f)

abbrev StarWithin : ℕ → Star → Type 0
StarWithin #V s = Ascend (read_words s) × Each (λ v. v.0 < #V) s.reads

module _ (rows reads : List ℕ) (#V #N : ℕ) (keeps : (i : ℕ) → i < #N → keeps_rules rows reads #V #N i ≡ true) (below : Each (λ w. w < #V) reads) where
  star-within : (s : Star) (i t : ℕ) → i < #N → StarIs rows reads s i t → StarWithin #V s
  star-within s i t h w = (ascends, reads_below)
    where
      says : StarSays rows reads i
      says = subst (Says rows reads #V i) (star-form (kind_of rows i) w.row_is.kind_is) (kept rows reads #V #N i (keeps i h)).says

      ascends : Ascend (read_words s)
      ascends =
          rw (star-words rows reads s i t w, ← w.row_is.arg_is, ← w.row_is.from_is)
          (to-ascend (drop (from_of rows i) reads) (arg_of rows i) says.there says.ascends)

      reads_below : Each (λ v. v.0 < #V) s.reads
      reads_below v u =
          below v.0 (part-mem (length s.reads) t reads (subst (Memᴰ v.0) (star-words rows reads s i t w) (Memᴰ.map (λ x. x.0) u)))

  candidate-within : (c : Candidate) (i last t : ℕ) → i < #N → RowIs rows reads i 2 c.variable.0 last t → c.variable.0 < #V
  candidate-within c i last t h w =
      let says = subst (Says rows reads #V i) (candidate-form (kind_of rows i) w.kind_is) (kept rows reads #V #N i (keeps i h)).says in
      subst (λ v. v < #V) w.arg_is says.0

  -- A formula that rows write which keep their rules is within the bounds.
  pub formula-within : (f : Formula) (i t : ℕ) → i + size f ≤ #N → Writes rows reads f i t → FormulaWithin #V f
  formula-within f i t h w =
      let (a, b) = each_part rows reads (StarWithin #V) (λ c. c.variable.0 < #V) #N star-within candidate-within f i t h w in
      record { reads_ascend = λ s u. (a s u).0; reads_below = λ s u. (a s u).1; assigned_below = b }
