-- A section that passes leaves its cursor behind its entries, and passes exactly if they are what document 01 asks of that section.
use Prim.Native.Nat.{ℕ, ◌+◌, ◌-◌, ◌*◌, ◌<◌, ◌≤◌}
use native.Mathlib.Omega.{arith}
use mathlib.Core.Bool.{Bool, cond, ◌||◌}
use mathlib.Core.List.{List}
use mathlib.Core.Path.{◌≡◌, sym, ap, ◌∙◌}
use borrow.Author.Tests.{ltb-false, le-ltb}
use lib.Dec.{ltb}
use lib.ListN.{length, get_or, take, drop, length-drop}
use lib.Seq.{drop-drop, get_or-drop, length-take-le}
use Rattle.paper.specs.declared.refusals.Fault.TheVariants.{ReadsLeft, TooDeep, EntryUnfit, NameNotAbove, ReadBeyond, RowBroken}
use Rattle.paper.specs.Limits.{most_chosen, most_reads, most_rows, most_variables}
use Rattle.sections.specs.declared.Cursor.{Cursor}
use Rattle.entries.specs.First.{first}
use Rattle.rows.specs.Rows.{taken_before, breaks_rules, is_deep}
use Rattle.entries.specs.Entries.{falls, beyond}
use Rattle.sections.specs.Sections.{halt, unless, start, variables_at, reads_at, rows_at, strategy_at}
use Rattle.table.specs.Table.{part_at, reads_of, layout}
use Rattle.entries.proofs.First.{first-none}
use Rattle.sections.proofs.Opened.{passed, unless-of, of-unless, Opened, behind, held, of-held}
use Rattle.sections.proofs.ThirdSection.{all_keep, all-taken}
use Rattle.table.proofs.Laid.{Names, Reads, Rows, Chosen}
use Rattle.std.specs.Prelude.{Result, Ok}
use Rattle.paper.specs.declared.Refusal.{Refusal}

-- the count of a part, and its entries
word_at : (words : List ℕ) (p : ℕ) → get_or (drop p words) 0 0 ≡ get_or words p 0
word_at words p = get_or-drop p words 0 0 ∙ ap (λ k. get_or words k 0) (omega arith)

entries_at : (words : List ℕ) (p q : ℕ) → p + 1 ≡ q → drop 1 (drop p words) ≡ drop q words
entries_at words p q e = drop-drop 1 p words ∙ ap (λ k. drop k words) e

-- the cursors behind sections of so many names, reads, rows and chosen labels
abbrev pub after_names : ℕ → Cursor
after_names #V = record { at = #V + 1; count = #V; variables = #V; reads = 0; rows = 0 }

abbrev pub after_reads : ℕ → ℕ → Cursor
after_reads #V #R = record { at = #V + #R + 2; count = #R; variables = #V; reads = #R; rows = 0 }

abbrev pub after_rows : ℕ → ℕ → ℕ → Cursor
after_rows #V #R #N = record { at = #V + #R + 4 * #N + 3; count = #N; variables = #V; reads = #R; rows = #N }

abbrev pub after_chosen : ℕ → ℕ → ℕ → ℕ → Cursor
after_chosen #V #R #N #S = record { at = #V + #R + 4 * #N + #S + 4; count = #S; variables = #V; reads = #R; rows = #N }

-- A cursor behind a section, of so many entries, and what holds of that count.
pub record Behind (d : Cursor) (after : ℕ → Cursor) (Holds : ℕ → Type 0) : Type 0 where
  pub count : ℕ
  pub cursor : d ≡ after count
  pub holds : Holds count

-- how each section's cursor comes of the one that opened it
abbrev named : Cursor → Result Cursor Refusal
named m = Ok (record { at = m.at; count = m.count; variables = m.count; reads = m.reads; rows = m.rows })

abbrev read : Cursor → Result Cursor Refusal
read m = Ok (record { at = m.at; count = m.count; variables = m.variables; reads = m.count; rows = m.rows })

abbrev rowed : Cursor → Result Cursor Refusal
rowed m = Ok (record { at = m.at; count = m.count; variables = m.variables; reads = m.reads; rows = m.count })

-- section 3 goes on if its rows take all reads and none is too deep
abbrev rowed_if : List ℕ → ℕ → Cursor → Result Cursor Refusal
rowed_if rows #R m =
    cond (ltb (taken_before rows m.count) #R) (halt ReadsLeft (taken_before rows m.count)) (unless TooDeep 0 (is_deep rows) m.count (rowed m))

rowed-of : (rows : List ℕ) (#R : ℕ) (m c : Cursor) → rowed_if rows #R m ≡ Ok c
    → (#R ≤ taken_before rows m.count) × (first (is_deep rows) m.count ≡ m.count) × (rowed m ≡ Ok c)
rowed-of rows #R m c e =
    let t = passed (ltb (taken_before rows m.count) #R) _ _ c e in
    let u = unless-of TooDeep 0 (is_deep rows) m.count _ c t.1 in
    (ltb-false _ _ t.0, u.0, u.1)

of-rowed : (rows : List ℕ) (#R : ℕ) (m : Cursor) → #R ≤ taken_before rows m.count → first (is_deep rows) m.count ≡ m.count → rowed_if rows #R m ≡ rowed m
of-rowed rows #R m h e = rw (le-ltb (taken_before rows m.count) #R h) (of-unless TooDeep 0 (is_deep rows) m.count _ e)

-- what is asked of an entry of section 4
abbrev unfit : List ℕ → ℕ → ℕ → Bool
unfit entries #N k = beyond entries #N k || falls entries k

-- the cursor behind each section, opened behind the one before
after-names : (#V : ℕ) → named (behind start 1 #V) ≡ Ok (after_names #V)
after-names #V = ap (λ at. Ok (record { at = at; count = #V; variables = #V; reads = 0; rows = 0 })) (omega arith)

after-reads : (#V #R : ℕ) → read (behind (after_names #V) 1 #R) ≡ Ok (after_reads #V #R)
after-reads #V #R = ap (λ at. Ok (record { at = at; count = #R; variables = #V; reads = #R; rows = 0 })) (omega arith)

after-rows : (#V #R #N : ℕ) → rowed (behind (after_reads #V #R) 4 #N) ≡ Ok (after_rows #V #R #N)
after-rows #V #R #N = ap (λ at. Ok (record { at = at; count = #N; variables = #V; reads = #R; rows = #N })) (omega arith)

after-chosen : (#V #R #N #S : ℕ) → ◌≡◌ {A = Result Cursor Refusal} (Ok (behind (after_rows #V #R #N) 1 #S)) (Ok (after_chosen #V #R #N #S))
after-chosen #V #R #N #S = ap (λ at. Ok (record { at = at; count = #S; variables = #V; reads = #R; rows = #N })) (omega arith)

-- a step leads to one cursor
one-cursor : {s : Result Cursor Refusal} {c d : Cursor} → s ≡ Ok c → s ≡ Ok d → c ≡ d
one-cursor p q = cc

module _ (words : List ℕ) where
  abbrev pub NamesPassed : Cursor → Type 0
  NamesPassed a = Behind a after_names (λ #V. (#V < length words) × ((#R #N #S : ℕ) → Names words (layout #V #R #N #S)))

  abbrev pub ReadsPassed : ℕ → Cursor → Type 0
  ReadsPassed #V b = Behind b (after_reads #V) (λ #R. (#V + #R + 1 < length words) × ((#N #S : ℕ) → Reads words (layout #V #R #N #S)))

  abbrev pub RowsPassed : ℕ → ℕ → Cursor → Type 0
  RowsPassed #V #R c = Behind c (after_rows #V #R) (λ #N. (#V + #R + 4 * #N + 2 < length words) × ((#S : ℕ) → Rows words (layout #V #R #N #S)))

  abbrev pub ChosenPassed : ℕ → ℕ → ℕ → Cursor → Type 0
  ChosenPassed #V #R #N d = Behind d (after_chosen #V #R #N) (λ #S. (#V + #R + 4 * #N + #S + 3 < length words) × Chosen words (layout #V #R #N #S))

  pub names_of : (a : Cursor) → variables_at words start ≡ Ok a → NamesPassed a
  unfolding variables_at
  names_of a e =
      let h = held words start 1 most_variables 1 NameNotAbove 1 (λ n. falls (drop 1 words)) named a e in
      record {
        count = h.n;
        cursor = one-cursor h.went (after-names h.n);
        holds = (omega arith, λ #R #N #S. record { some = h.opens.least; most = h.opens.most; counted = h.opens.word; ascend = h.fit });
      }

  pub of-names : (#V #R #N #S : ℕ) → Names words (layout #V #R #N #S) → #V < length words → variables_at words start ≡ Ok (after_names #V)
  unfolding variables_at
  of-names #V #R #N #S h room =
      let o : Opened words 1 most_variables 1 #V = record { word = h.counted; least = h.some; most = h.most; room = omega arith } in
      of-held words start 1 most_variables 1 NameNotAbove 1 (λ n. falls (drop 1 words)) named #V o h.ascend ∙ after-names #V

  pub reads-of : (#V : ℕ) (a b : Cursor) → a ≡ after_names #V → reads_at (part_at words a) a ≡ Ok b → ReadsPassed #V b
  unfolding reads_at
  reads-of #V a b q e =
      let es : drop 1 (drop (#V + 1) words) ≡ drop (#V + 2) words = entries_at words (#V + 1) (#V + 2) (omega arith) in
      let h = held (drop (#V + 1) words) (after_names #V) 0 most_reads 1 ReadBeyond (#V + 1 + 1) (λ n. beyond (drop (#V + 2) words) #V) read b
      (simp (q, es) at e) in
      record {
        count = h.n;
        cursor = one-cursor h.went (after-reads #V h.n);
        holds = (
          omega (arith, length-drop (#V + 1) words),
          λ #N #S. record { most = h.opens.most; counted = sym (word_at words (#V + 1)) ∙ h.opens.word; below = h.fit },
        );
      }

  pub of-reads : (#V #R #N #S : ℕ) → Reads words (layout #V #R #N #S) → #V + #R + 1 < length words
      → reads_at (drop (#V + 1) words) (after_names #V) ≡ Ok (after_reads #V #R)
  unfolding reads_at
  of-reads #V #R #N #S h room =
      rw (entries_at words (#V + 1) (#V + 2) (omega arith))
      (of-held (drop (#V + 1) words) (after_names #V) 0 most_reads 1 ReadBeyond (#V + 1 + 1) (λ n. beyond (drop (#V + 2) words) #V) read #R
      (record { word = word_at words (#V + 1) ∙ h.counted; least = omega arith; most = h.most; room = omega (arith, length-drop (#V + 1) words) }) h.below
      ∙ after-reads #V #R)

  -- the reads that stand before the cursor behind section 2
  pub reads_before : (#V #R : ℕ) → reads_of words (after_reads #V #R) ≡ take #R (drop (#V + 2) words)
  reads_before #V #R = let z : #V + #R + 2 - #R ≡ #V + 2 = omega arith in rw z

  pub rows_of : (#V #R : ℕ) (b c : Cursor) → b ≡ after_reads #V #R → rows_at (part_at words b) (reads_of words b) b ≡ Ok c → RowsPassed #V #R c
  unfolding rows_at
  rows_of #V #R b c q e =
      let p = drop (#V + #R + 2) words in
      let rows = drop (#V + #R + 3) words in
      let reads = take #R (drop (#V + 2) words) in
      let es : drop 1 p ≡ rows = entries_at words (#V + #R + 2) (#V + #R + 3) (omega arith) in
      let h = held p (after_reads #V #R) 1 most_rows 4 RowBroken 0 (λ n. breaks_rules rows reads #V n) (rowed_if rows #R) c
      (simp (q, reads_before, es) at e) in
      let w = rowed-of rows #R (behind (after_reads #V #R) 4 h.n) c h.went in
      let there = length-take-le #R (drop (#V + 2) words) (omega (arith, length-drop (#V + #R + 2) words, length-drop (#V + 2) words)) in
      record {
        count = h.n;
        cursor = one-cursor w.2 (after-rows #V #R h.n);
        holds = (
          omega (arith, length-drop (#V + #R + 2) words),
          λ #S. record {
            some = h.opens.least;
            most = h.opens.most;
            counted = sym (word_at words (#V + #R + 2)) ∙ h.opens.word;
            keep = all_keep rows reads #V h.n h.fit;
            taken = all-taken rows reads #V h.n #R there h.fit w.0;
            shallow = w.1;
          },
        );
      }

  pub of-rows : (#V #R #N #S : ℕ) → Rows words (layout #V #R #N #S) → #V + #R + 4 * #N + 2 < length words
      → rows_at (drop (#V + #R + 2) words) (reads_of words (after_reads #V #R)) (after_reads #V #R) ≡ Ok (after_rows #V #R #N)
  unfolding rows_at
  of-rows #V #R #N #S h room =
      let p = drop (#V + #R + 2) words in
      let rows = drop (#V + #R + 3) words in
      let reads = take #R (drop (#V + 2) words) in
      rw (reads_before, entries_at words (#V + #R + 2) (#V + #R + 3) (omega arith))
      (of-held p (after_reads #V #R) 1 most_rows 4 RowBroken 0 (λ n. breaks_rules rows reads #V n) (rowed_if rows #R) #N
      (record { word = word_at words (#V + #R + 2) ∙ h.counted; least = h.some; most = h.most; room = omega (arith, length-drop (#V + #R + 2) words) })
      (first-none _ #N (λ i k. rw (h.keep i k)))
      ∙ of-rowed rows #R (behind (after_reads #V #R) 4 #N) (omega arith) h.shallow
      ∙ after-rows #V #R #N)

  pub chosen_of : (#V #R #N : ℕ) (c d : Cursor) → c ≡ after_rows #V #R #N → strategy_at (part_at words c) c ≡ Ok d → ChosenPassed #V #R #N d
  unfolding strategy_at
  chosen_of #V #R #N c d q e =
      let p = drop (#V + #R + 4 * #N + 3) words in
      let entries = drop (#V + #R + 4 * #N + 4) words in
      let es : drop 1 p ≡ entries = entries_at words (#V + #R + 4 * #N + 3) (#V + #R + 4 * #N + 4) (omega arith) in
      let h = held p (after_rows #V #R #N) 0 most_chosen 1 EntryUnfit 0 (λ n. unfit entries #N) Ok d (simp (q, es) at e) in
      record {
        count = h.n;
        cursor = one-cursor h.went (after-chosen #V #R #N h.n);
        holds = (
          omega (arith, length-drop (#V + #R + 4 * #N + 3) words),
          record { most = h.opens.most; counted = sym (word_at words (#V + #R + 4 * #N + 3)) ∙ h.opens.word; fit = h.fit },
        );
      }

  pub of-chosen : (#V #R #N #S : ℕ) → Chosen words (layout #V #R #N #S) → #V + #R + 4 * #N + #S + 3 < length words
      → strategy_at (drop (#V + #R + 4 * #N + 3) words) (after_rows #V #R #N) ≡ Ok (after_chosen #V #R #N #S)
  unfolding strategy_at
  of-chosen #V #R #N #S h room =
      let p = #V + #R + 4 * #N + 3 in
      let entries = drop (#V + #R + 4 * #N + 4) words in
      rw (entries_at words p (#V + #R + 4 * #N + 4) (omega arith))
      (of-held (drop p words) (after_rows #V #R #N) 0 most_chosen 1 EntryUnfit 0 (λ n. unfit entries #N) Ok #S
      (record { word = word_at words p ∙ h.counted; least = omega arith; most = h.most; room = omega (arith, length-drop p words) })
      h.fit
      ∙ after-chosen #V #R #N #S)
