-- Sound words have sound parts (specs/Inside/Parts.antt), and sound parts are what the walks, the net and the order ask for:
-- their rows write the formula that is read from them, form one tree, and have stars whose reads are there.
use Prim.Native.Nat.{ℕ, zero, suc, ◌+◌, ◌-◌, ◌*◌, ◌<◌, ◌≤◌}
use native.Mathlib.Omega.{arith}
use native.Mathlib.Nat.{eq-or-lt_of_le}
use mathlib.Core.Path.{◌≡◌, ap, subst}
use mathlib.Core.List.{List, Memᴰ}
use lib.ListN.{length, get_or, take, drop, length-drop}
use Rattle.paper.specs.Limits.{most_depth, most_rows}
use Rattle.paper.specs.declared.Label.{Label}
use Rattle.paper.specs.Formula.{labels, Formula}
use Rattle.paper.proofs.Bools.{pick}
use Rattle.paper.proofs.Labels.{mem-has}
use Rattle.table.specs.declared.Layout.{Layout}
use Rattle.rows.specs.Rows.{kind_of, arg_of, from_of, form_of}
use Rattle.rows.specs.declared.form.Form.{Form}
use Rattle.rows.specs.declared.form.Form.TheVariants as form
use Rattle.table.specs.Table.{checked, rows_in, reads_in, chosen_in}
use Rattle.rows.specs.Formula.{formula_at}
use Rattle.rows.specs.Inside.Walk.{Walkable}
use Rattle.written.specs.Written.{size, Ascend}
use Rattle.written.proofs.Words.{of_rising}
use Rattle.written.proofs.Writes.{Writes}
use Rattle.written.proofs.WritesRead.{formula-read}
use Rattle.written.proofs.WrittenDepth.{written-depth}
use Rattle.rows.proofs.Rules.{KindIs, is-FALSE, is-star, is-candidate, is-conjunction, is-disjunction, kind_is, star-form, Says, rest, kept}
use Rattle.written.proofs.RulesWrite.{rules-write-whole}
use Rattle.rows.proofs.Shaped.{shaped}
use Rattle.rows.proofs.Taken.{taken-there}
use Rattle.table.proofs.LaidExactly.{accepted}
use Rattle.written.proofs.Tables.{understood}
use Rattle.marks.specs.Inside.Chosen.{AllBelow}
use Rattle.net.specs.declared.Net.{Net}
use Rattle.net.specs.Inside.Net.{Chosen, IsNet}
use Rattle.net.proofs.Sound.{chosen_of}
use Rattle.net.proofs.Spans.{labels-count, labels-between}
use Rattle.fingers.specs.Inside.Followable.{Followable}
use Rattle.strategy.specs.Inside.Parts.{Parts}
use Rattle.std.specs.Prelude.{Ok}

pub parts-of : (words : List ℕ) (l : Layout) → checked words ≡ Ok l
    → Parts (rows_in words l) (reads_in words l) (chosen_in words l) l.variables l.rows
parts-of words l e =
    let u = understood words l e in
    let n = u.reads_there in
    let s = u.chosen_there in
    record {
      room = u.rows_there;
      some_rows = u.some_rows;
      at_most_rows = u.at_most_rows;
      at_most_variables = u.at_most_variables;
      at_most_reads = omega (arith, u.at_most_reads);
      keeps = u.rules_kept;
      shallow = (accepted words l e).rows.shallow;
      well_formed = u.well_formed;
      reads_below = λ r h. u.reads_below r (omega arith);
      below = λ k h. u.chosen_below k (omega arith);
      ascends = u.within.chosen_ascend;
    }

-- the parts as they are lent: from a position on, or between two
module _ (words : List ℕ) (l : Layout) (e : checked words ≡ Ok l) where
  pub record Reached : Type 0 where
    pub reads_end : l.reads_at + l.reads ≤ length words
    pub rows_start : l.rows_at ≤ length words
    pub chosen_start : l.chosen_at ≤ length words
    pub small : l.reads_at + l.reads < 65536

  pub reached : Reached
  reached =
      let u = understood words l e in
      let a = ap (λ (x : Layout). x.reads_at) u.of_counts in
      let b = ap (λ (x : Layout). x.rows_at) u.of_counts in
      let c = ap (λ (x : Layout). x.chosen_at) u.of_counts in
      let n = u.all_words in
      let v = u.at_most_variables in
      let r = u.at_most_reads in
      record { reads_end = omega arith; rows_start = omega arith; chosen_start = omega arith; small = omega arith }

  abbrev pub lent_rows : List ℕ
  lent_rows = take (length words - l.rows_at) (drop l.rows_at words)

  abbrev pub lent_reads : List ℕ
  lent_reads = take (l.reads_at + l.reads - l.reads_at) (drop l.reads_at words)

  abbrev pub lent_chosen : List ℕ
  lent_chosen = take (length words - l.chosen_at) (drop l.chosen_at words)

  -- what is so of the parts is so of what is lent
  as_lent : (P : List ℕ → List ℕ → List ℕ → Type 0) → P (rows_in words l) (reads_in words l) (chosen_in words l) → P lent_rows lent_reads lent_chosen
  as_lent P h =
      let r : l.reads_at + l.reads - l.reads_at ≡ l.reads = omega arith in
      let s : length words - l.chosen_at ≡ l.chosen = omega (arith, (understood words l e).all_words) in
      rw (rest words l.rows_at, r, s) h

  pub parts-lent : Parts lent_rows lent_reads lent_chosen l.variables l.rows
  parts-lent = as_lent (λ rows reads chosen. Parts rows reads chosen l.variables l.rows) (parts-of words l e)

  pub of-lent : (P : List ℕ → List ℕ → List ℕ → Type 0) → P lent_rows lent_reads lent_chosen → P (rows_in words l) (reads_in words l) (chosen_in words l)
  of-lent P h =
      let r : l.reads_at + l.reads - l.reads_at ≡ l.reads = omega arith in
      let s : length words - l.chosen_at ≡ l.chosen = omega (arith, (understood words l e).all_words) in
      rw (← rest words l.rows_at, ← s) (rw (← r) h)

-- words that strictly ascend, by their numbers
pub ascend-all : (ws : List ℕ) → Ascend ws → (j k : ℕ) → j < k → k < length ws → get_or ws j 0 < get_or ws k 0
ascend-all ws a j zero h b = absurd (omega arith)
ascend-all ws a j (suc k) h b =
    let s = of_rising 0 ws a k b in
    pick (eq-or-lt_of_le h) (λ e. let q : j ≡ k = omega arith in rw q s)
    (λ l. let z = ascend-all ws a j k (omega arith) (omega arith) in omega arith)

module _ {rows reads chosen : List ℕ} {#V #N : ℕ} (p : Parts rows reads chosen #V #N) where
  -- the rows write the formula that is read from them
  record Held (f : Formula) : Type 0 where
    writes : Writes rows reads f 0 0
    many : size f ≡ #N

  held : Held (formula_at rows reads most_depth 0)
  held =
      let f = formula_at rows reads #N 0 in
      let w = rules-write-whole rows reads #V #N p.keeps #N p.some_rows (omega arith) in
      let d = (written-depth rows reads f #N w.writes w.many).0 p.shallow in
      rw (formula-read rows reads f 0 0 most_depth w.writes d) (record { writes = w.writes; many = w.many })

  pub parts-write : Writes rows reads (formula_at rows reads most_depth 0) 0 0
  parts-write = held.writes

  pub rows_are : size (formula_at rows reads most_depth 0) ≡ #N
  rows_are = held.many

  pub few-labels : (l : Label) → Memᴰ l (labels (formula_at rows reads most_depth 0)) → l.0 < most_rows
  few-labels l t =
      let n = rows_are in
      let m = p.at_most_rows in
      let h = rw (labels-count rows reads (formula_at rows reads most_depth 0) 0 0 parts-write) at (mem-has t) in
      omega (arith, labels-between 0 (size (formula_at rows reads most_depth 0)) l h)

  pub walkable : Walkable rows #N 0
  walkable = record { shaped = shaped rows reads #V #N p.keeps p.room p.at_most_rows; here = p.some_rows }

  pub row-of-chosen : (k : ℕ) → k < length chosen → 4 * get_or chosen k 0 + 4 ≤ length rows
  row-of-chosen k h = let b = p.below k h in let r = p.room in omega arith

  pub few-chosen : AllBelow most_rows chosen
  few-chosen k h = let b = p.below k h in let m = p.at_most_rows in omega arith

  -- what a star and a guard say
  star-read : (s : ℕ) → s < #N → kind_of rows s ≡ 1 → from_of rows s + arg_of rows s ≤ length reads
  star-read s h e =
      let w = kept rows reads #V #N s (p.keeps s h) in
      let says = subst (Says rows reads #V s) (star-form (kind_of rows s) e) w.says in
      let t = taken-there rows reads #V #N s (λ i b. p.keeps i (omega arith)) in
      omega (arith, says.there, w.from_is, length-drop (from_of rows s) reads)

  guard-star : (a : ℕ) → a < #N → 4 < kind_of rows a → kind_of rows (a + 1) ≡ 1
  guard-star a h l = go (form_of (kind_of rows a)) (kind_is (kind_of rows a)) (kept rows reads #V #N a (p.keeps a h)).says
    where
      go : (F : Form) → KindIs (kind_of rows a) F → Says rows reads #V a F → kind_of rows (a + 1) ≡ 1
      go form.False (is-FALSE e) s = absurd (omega arith)
      go form.Star (is-star e) s = absurd (omega arith)
      go form.Candidate (is-candidate e) s = absurd (omega arith)
      go form.Conjunction (is-conjunction e) s = absurd (omega arith)
      go form.Disjunction (is-disjunction e) s = absurd (omega arith)
      go form.Exists k s = s.1.star
      go form.If k s = s.1.star
      go form.Unknown k s = absurd s

  pub chosen-rows : ((k : ℕ) → k < length chosen → kind_of rows (get_or chosen k 0) ≡ 2) → Chosen rows chosen #N
  chosen-rows kinds =
      chosen_of rows reads #V #N p.keeps p.room p.at_most_rows chosen p.below (ascend-all chosen p.ascends) kinds p.some_rows p.at_most_variables

  pub ready : {net : Net} → Chosen rows chosen #N → IsNet rows chosen #N net → Followable rows reads chosen net #N
  ready c n = record {
    choice = c;
    netted = n;
    read = star-read;
    few = p.at_most_reads;
    variables = λ r h. let b = p.reads_below r h in let m = p.at_most_variables in omega arith;
    guarded = guard-star;
  }
