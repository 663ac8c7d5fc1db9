-- The lines of a listing: those of some transitions and of the next ones are those of all of them; the kept labels of a transition
-- are the positions of its bytes; and what is put line by line is what the definitions say.
use Prim.Native.Nat.{ℕ, zero, suc, ◌+◌, ◌-◌, ◌*◌, ◌^◌, ◌<◌, ◌≤◌}
use native.Mathlib.Omega.{arith}
use native.Mathlib.Nat.{zero-add, add-zero, suc-add, add-suc}
use mathlib.Core.Path.{◌≡◌, refl, sym, ap, ◌∙◌}
use mathlib.Core.Bool.{Bool, true, false, cond}
use mathlib.Core.List.{List, ◌∷◌, ◌++◌, map, append_assoc, append-nil}
use lib.Dec.{eqb, ltb}
use lib.ListN.{length, take}
use lib.Seq.{length-take-le}
use borrow.Author.Tests.{lt-ltb, le-ltb}
use Rattle.paper.specs.declared.Label.{Label}
use Rattle.paper.specs.Lists.{those}
use Rattle.paper.specs.Formula.{ℓ}
use Rattle.paper.specs.Transition.{is_kept}
use Rattle.table.specs.declared.Layout.{Layout}
use Rattle.written.specs.Tables.{formula_in}
use Rattle.written.specs.Written.{labels_on}
use Rattle.strategy.specs.declared.Accepted.{Accepted}
use Rattle.strategy.specs.Judge.{proposal_in}
use Rattle.answers.specs.Requests.{key_of}
use Rattle.answers.specs.Inside.Judged.{AcceptedAs, Ordered, Assigned}
use Rattle.answers.proofs.Accepted.{is-understood, few-transitions}
use Rattle.answers.proofs.Keeping.{rows_fit, front-is, front-there, front_length, assigned-many, assigned-there, assigned-front}
use Rattle.marks.specs.Marks.{positions_from, positions}
use Rattle.listing.specs.Text.{transition_line}
use Rattle.listing.specs.declared.Pen.{Pen}
use Rattle.listing.specs.Inside.Placed.{Puts}
use Rattle.listing.proofs.Placing.{puts-nothing, puts_then}
use Rattle.lister.specs.Listing.{line_of, lines_from}
use Rattle.lister.specs.Inside.Steps.{longest, fitting}

-- the bytes of labels that pass a test, and their positions
module _ (p : Label → Bool) where
  position-of : (t : Bool) (i : ℕ) (ks : List ℕ) (xs : List Label) → ks ≡ map (λ x. x.0) xs
      → cond (eqb (cond t 1 0) 1) (i ∷ ks) ks ≡ map (λ x. x.0) (cond t (ℓ i ∷ xs) xs)
  position-of true i ks xs e = ap (λ (r : List ℕ). i ∷ r) e
  position-of false i ks xs e = e

  positions-of : (i n : ℕ) → positions_from i (map (λ x. cond (p x) 1 0) (labels_on i n)) ≡ map (λ x. x.0) (those p (labels_on i n))
  unfolding positions_from
  positions-of i zero = refl
  positions-of i (suc n) = position-of (p (ℓ i)) i _ (those p (labels_on (suc i) n)) (positions-of (suc i) n)

module _ (words : List ℕ) (l : Layout) where
  -- m lines and n more are m + n lines
  pub lines_split : (m n k : ℕ) → lines_from words l k (m + n) ≡ lines_from words l k m ++ lines_from words l (k + m) n
  unfolding lines_from
  lines_split zero n k = rw (zero-add, add-zero)
  lines_split (suc m) n k = rw (suc-add, add-suc, ← suc-add k m, append_assoc) (ap (λ (r : List ℕ). line_of words l k ++ r) (lines_split m n (suc k)))

  lines_next : (k count : ℕ) → lines_from words l k (count + 1) ≡ lines_from words l k count ++ line_of words l (k + count)
  unfolding lines_from
  lines_next k count = lines_split count 1 k ∙ rw append-nil

  -- how many lines fit: one more, or none
  fits_more : (room at k more : ℕ) → longest l ≤ room - at
      → fitting words l room at k (suc more) ≡ suc (fitting words l room (at + length (line_of words l k)) (suc k) more)
  unfolding fitting
  fits_more room at k more h = rw (le-ltb (room - at) (longest l) h)

  fits-no-more : (room at k more : ℕ) → room - at < longest l → fitting words l room at k more ≡ 0
  unfolding fitting
  fits-no-more room at k zero h = refl
  fits-no-more room at k (suc more) h = rw (lt-ltb (room - at) (longest l) h)

  pub fits-within : (room at k more : ℕ) → fitting words l room at k more ≤ more
  unfolding fitting
  fits-within room at k zero = omega arith
  fits-within room at k (suc more) = either (ltb (room - at) (longest l)) (fits-within room (at + length (line_of words l k)) (suc k) more)
    where
      either : (b : Bool) {n : ℕ} → n ≤ more → cond b 0 (suc n) ≤ suc more
      either true h = omega arith
      either false h = omega arith

  -- where there is room for the longest, one is put at least
  pub fits-some : (room k more : ℕ) → longest l ≤ room → 0 < more → 0 < fitting words l room 0 k more
  fits-some room k zero h some = absurd (omega arith)
  fits-some room k (suc more) h some = let n = fits_more room 0 k more (omega arith) in omega arith

  -- lines put one after another, from transition k on
  pub record Putting (k left : ℕ) (before after : Pen) (count : ℕ) : Type 0 where
    pub so_far : count ≤ left
    pub puts : Puts before (lines_from words l k count) after
    pub fit : fitting words l (length before.buf.now) 0 k left ≡ count + fitting words l (length before.buf.now) after.at (k + count) (left - count)

  module _ {k left : ℕ} {before : Pen} where
    pub putting-begins : before.at ≡ 0 → Putting k left before before 0
    unfolding lines_from
    putting-begins none = record {
      so_far = omega arith;
      puts = puts-nothing before (omega arith);
      fit = let all : left - 0 ≡ left = omega arith in rw (none, add-zero, zero-add, all);
    }

    module _ {after : Pen} {count : ℕ} (p : Putting k left before after count) where
      pub putting-goes-on : {after' : Pen} → count < left → longest l ≤ length before.buf.now - after.at → Puts after (line_of words l (k + count)) after'
          → Putting k left before after' (count + 1)
      putting-goes-on h room q =
          let one : left - count ≡ suc (left - (count + 1)) = omega arith in
          let next : k + (count + 1) ≡ suc (k + count) = omega arith in
          let fit = rw one at p.fit in
          let more = fits_more (length before.buf.now) after.at (k + count) (left - (count + 1)) room in
          record {
            so_far = omega arith;
            puts = rw (lines_next k count) (puts_then p.puts q);
            fit = rw (next, q.put.next) (omega arith);
          }

      putting-stops : (fitting words l (length before.buf.now) after.at (k + count) (left - count) ≡ 0)
          → count ≡ fitting words l (length before.buf.now) 0 k left
      putting-stops none = let f = p.fit in omega arith

      pub none_left : left ≤ count → count ≡ fitting words l (length before.buf.now) 0 k left
      unfolding fitting
      none_left h = let none : left - count ≡ 0 = omega arith in putting-stops (rw none)

      pub lines-all : left ≤ count → Puts before (lines_from words l k left) after
      lines-all h = let all : count ≡ left = omega (arith, p.so_far) in rw all at p.puts

      pub no_room : length before.buf.now - after.at < longest l → count ≡ fitting words l (length before.buf.now) 0 k left
      no_room h = putting-stops (fits-no-more (length before.buf.now) after.at (k + count) (left - count) h)

-- The line of transition k, from its bytes and its chosen labels.
module _ {words : List ℕ} {a : Accepted} {order : List ℕ} (o : Ordered words a order) {k : ℕ} (h : k < a.transitions)
    {kept₀ kept labels₀ labels : List ℕ} {chosen : ℕ} (q : Assigned words a.layout k kept₀ kept labels₀ labels chosen) where
  abbrev l : Layout
  l = a.layout

  abbrev e : AcceptedAs words a
  e = o.accepted

  pub rows_there : l.rows ≤ length kept
  rows_there = (front-there words a e k h kept₀ kept q.bytes).0

  pub rows_long : l.rows ≡ length (take l.rows kept)
  rows_long = front_length words a e k h kept₀ kept q.bytes

  pub labels-there : chosen ≤ length labels
  labels-there = (assigned-there words a e k h q).0

  pub labels-long : chosen ≡ length (take chosen labels)
  labels-long = sym (length-take-le chosen labels labels-there)

  pub line-fits : (at room : ℕ) → at + longest l ≤ room
      → (k < 2 ^ 32) × (length (take l.rows kept) ≤ 65536) × (at + (23 + 6 * length (take chosen labels) + 6 * length (take l.rows kept)) ≤ room)
  line-fits at room fits =
      let few = few-transitions words a e in
      let v = assigned-many words a e k h q in
      let c = labels-long in
      let n = rows_long in
      let most = rows_fit words a e in
      (omega arith, omega arith, omega arith)

  pub line-put : {before after : Pen} → Puts before (transition_line k (take chosen labels) (positions (take l.rows kept))) after
      → Puts before (line_of words l k) after
  unfolding line_of positions
  line-put puts =
      let u = is-understood words a e in
      let kept-are = positions-of (is_kept (formula_in words l) (proposal_in words l) (key_of words l k)) 0 l.rows in
      rw (← assigned-front words a e k h q, u.labels_are, ← kept-are) (rw (front-is words a e k h kept₀ kept q.bytes, u.labels_are) at puts)
