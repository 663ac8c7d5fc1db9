-- A section opens, and goes on where its search finds no offender: how steps are passed, and what a part that opened has.
use Prim.Native.Nat.{ℕ, ◌+◌, ◌-◌, ◌*◌, ◌<◌, ◌≤◌}
use native.Mathlib.Omega.{arith}
use mathlib.Core.Bool.{Bool, true, false, cond, ◌||◌}
use mathlib.Core.List.{List}
use mathlib.Core.Path.{◌≡◌, refl, sym, ap, subst, ◌∙◌}
use borrow.Author.Tests.{eqb-false, ne_eqb, ltb-false, lt-ltb, le-ltb}
use lib.Dec.{ltb, eqb}
use lib.ListN.{length, get_or, take, drop, length-drop}
use Rattle.paper.specs.declared.Refusal.{Refusal}
use Rattle.paper.specs.declared.refusals.Fault.{Fault}
use Rattle.sections.specs.declared.Cursor.{Cursor}
use Rattle.entries.specs.First.{first}
use Rattle.sections.specs.Sections.{halt, and_then, unless, open_at}
use Rattle.entries.proofs.First.{first-le, neither}
use Rattle.rows.proofs.Rules.{rest}
use Rattle.std.specs.Prelude.{Result, Ok, Err}

-- a test that did not refuse
pub passed : (b : Bool) (r : Refusal) (next : Result Cursor Refusal) (d : Cursor) → cond b (Err r) next ≡ Ok d → (b ≡ false) × (next ≡ Ok d)
passed true r next d e = let z : ◌≡◌ {A = ℕ} 0 1 = cc in absurd (omega arith)
passed false r next d e = (refl, e)

-- a search that found no offender
module _ (fault : Fault) (base : ℕ) (bad : ℕ → Bool) (n : ℕ) (next : Result Cursor Refusal) where
  pub unless-of : (d : Cursor) → unless fault base bad n next ≡ Ok d → (first bad n ≡ n) × (next ≡ Ok d)
  unless-of d e =
      let p = passed (ltb (first bad n) n) _ next d e in
      (omega (arith, first-le bad n, ltb-false (first bad n) n p.0), p.1)

  pub of-unless : first bad n ≡ n → unless fault base bad n next ≡ next
  of-unless e = rw (le-ltb (first bad n) n (omega arith))

-- two steps that both went on
pub record Through (s : Result Cursor Refusal) (next : Cursor → Result Cursor Refusal) (d : Cursor) : Type 0 where
  pub mid : Cursor
  pub came : s ≡ Ok mid
  pub went : next mid ≡ Ok d

pub through : (s : Result Cursor Refusal) (next : Cursor → Result Cursor Refusal) (d : Cursor) → and_then s next ≡ Ok d → Through s next d
through (Err r) next d e = let z : ◌≡◌ {A = ℕ} 0 1 = cc in absurd (omega arith)
through (Ok c) next d e = record { mid = c; came = refl; went = e }

-- A part that opens as a section of n entries, and the cursor behind it.
pub record Opened (part : List ℕ) (low high width n : ℕ) : Type 0 where
  pub word : get_or part 0 0 ≡ n
  pub least : low ≤ n
  pub most : n ≤ high
  pub room : n * width < length part

abbrev pub behind : Cursor → ℕ → ℕ → Cursor
behind c width n = record { at = c.at + 1 + n * width; count = n; variables = c.variables; reads = c.reads; rows = c.rows }

module _ (part : List ℕ) (c : Cursor) (low high width : ℕ) where
  pub opened : (d : Cursor) → open_at part c low high width ≡ Ok d → Opened part low high width d.count × (d ≡ behind c width d.count)
  unfolding open_at
  opened d e =
      let p = passed (eqb (length part) 0) _ _ d e in
      let q = passed (ltb (get_or part 0 0) low || ltb high (get_or part 0 0)) _ _ d p.1 in
      let r = passed (ltb (length part - 1) (get_or part 0 0 * width)) _ _ d q.1 in
      let t = neither (ltb (get_or part 0 0) low) _ q.0 in
      let is : behind c width (get_or part 0 0) ≡ d = cc in
      subst (λ n. Opened part low high width n × (d ≡ behind c width n)) (ap (λ x. x.count) is)
      (record { word = refl; least = omega (arith, ltb-false); most = omega (arith, ltb-false); room = omega (arith, ltb-false, eqb-false) }, sym is)

  pub of-opened : (n : ℕ) → Opened part low high width n → open_at part c low high width ≡ Ok (behind c width n)
  unfolding open_at
  of-opened n o =
      let some = ne_eqb (length part) 0 (λ e. omega arith) in
      simp (o.word, some, le-ltb n low o.least, le-ltb high n o.most, le-ltb (length part - 1) (n * width) (omega arith))

  module _ (fault : Fault) (base : ℕ) (bad : ℕ → ℕ → Bool) (next : Cursor → Result Cursor Refusal) where
    -- a section that opens, refused at the lowest of its entries that is bad
    abbrev pub section_at : Result Cursor Refusal
    section_at = and_then (open_at part c low high width) (λ m. unless fault base (bad m.count) m.count (next m))

    pub record Held (d : Cursor) : Type 0 where
      pub n : ℕ
      pub opens : Opened part low high width n
      pub fit : first (bad n) n ≡ n
      pub went : next (behind c width n) ≡ Ok d

    pub held : (d : Cursor) → section_at ≡ Ok d → Held d
    held d e =
        let t = through (open_at part c low high width) _ d e in
        let o = opened t.mid t.came in
        let u = unless-of fault base (bad t.mid.count) t.mid.count _ d t.went in
        record { n = t.mid.count; opens = o.0; fit = u.0; went = sym (ap next o.1) ∙ u.1 }

    pub of-held : (n : ℕ) → Opened part low high width n → first (bad n) n ≡ n → section_at ≡ next (behind c width n)
    of-held n o e = rw (of-opened n o) (of-unless fault base (bad n) n _ e)

-- A section that opened, with the cursor d behind it.
pub record Opening (part : List ℕ) (c : Cursor) (low high width : ℕ) (d : Cursor) : Type 0 where
  pub came : open_at part c low high width ≡ Ok d
  pub fits : Opened part low high width d.count

module _ (part : List ℕ) (c : Cursor) (low high width : ℕ) where
  pub opened_with : {s : Result Cursor Refusal} {d : Cursor} → s ≡ open_at part c low high width → s ≡ Ok d → Opening part c low high width d
  opened_with {s} {d} asked told = let e = sym asked ∙ told in record { came = e; fits = (opened part c low high width d e).0 }

-- What the code of a section answers that opened with the cursor d, where the search over its entries stopped at k.
module _ {part : List ℕ} {c : Cursor} {low high width : ℕ} {d : Cursor} (o : Opening part c low high width d) where
  module _ (fault : Fault) (base : ℕ) (bad : ℕ → Bool) (next : Cursor → Result Cursor Refusal) {k : ℕ} (lowest : k ≡ first bad d.count) where
    pub some-bad : k < d.count → halt fault (base + k) ≡ section_at part c low high width fault base (λ n. bad) next
    some-bad h = rw (o.came, ← lowest, lt-ltb k d.count h)

    pub none-bad : d.count ≤ k → next d ≡ section_at part c low high width fault base (λ n. bad) next
    none-bad h = rw (o.came, ← lowest, le-ltb k d.count h)

-- the entries are there, in the list that is lent by `&part[1..]`
pub entries-there : {part : List ℕ} {low high width n : ℕ} → Opened part low high width n → n * width ≤ length (take (length part - 1) (drop 1 part))
entries-there {part} o = rw (rest part 1, length-drop) (omega arith)
