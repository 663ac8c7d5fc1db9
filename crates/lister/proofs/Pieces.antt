-- A listing is its pieces joined: the part that begins with a piece follows those below it, and all pieces are the whole listing. So what
-- is given to the writing call, part after part, is the listing, each part being what follows where the one before it ended.
use Prim.Native.Nat.{ℕ, zero, suc, ◌+◌, ◌-◌, ◌<◌, ◌≤◌}
use native.Mathlib.Omega.{arith}
use native.Mathlib.Nat.{zero-add, suc-add}
use native.Mathlib.Numerals.{add-one}
use mathlib.Core.Path.{◌≡◌, refl, sym, ap, ◌∙◌}
use mathlib.Core.List.{List, [], ◌++◌, append_assoc, append-nil}
use lib.ListN.{length, take, drop}
use lib.Seq.{take_at, drop_at}
use Rattle.listing.specs.Inside.Placed.{placed, Put}
use Rattle.lister.specs.Listing.{lines_from, first_of, transitions_of, lines_below}
use Rattle.lister.specs.Inside.Steps.{pieces, pieces_below}
use Rattle.lister.specs.Inside.Steps.{many_pieces, part_of}
use Rattle.lister.proofs.LinesPut.{lines_split}
use Rattle.std.specs.Prelude.{Result, Ok, Err}
use Rattle.paper.specs.declared.Refusal.{Refusal}
use Rattle.strategy.specs.declared.Accepted.{Accepted}

-- what is put at the front stands there
pub put_front : {old text new : List ℕ} {after : ℕ} → Put old 0 text new after → take after new ≡ text
unfolding placed
put_front {old} {text} {new} {after} p =
    let n : length text ≡ after = sym (p.next ∙ zero-add (length text)) in
    ap (take after) p.text ∙ take_at text (drop (0 + length text) old) after n

-- a part between what is before it and what is behind it
pub stands-between : (before part behind : List ℕ) {whole : List ℕ} → whole ≡ (before ++ part) ++ behind
    → part ≡ take (length part) (drop (length before) whole)
stands-between before part behind e =
    sym (ap (λ (ws : List ℕ). take (length part) (drop (length before) ws)) (e ∙ append_assoc before part behind)
    ∙ ap (take (length part)) (drop_at before (part ++ behind) (length before) refl) ∙ take_at part behind (length part) refl)

module _ (words : List ℕ) where
  abbrev whole_of : Result Accepted Refusal → List ℕ
  whole_of j = first_of words j ++ lines_below words j (transitions_of j)

  -- the part from piece n on follows the pieces below n
  pub part-follows : (j : Result Accepted Refusal) (room n : ℕ) → n < pieces j
      → pieces_below words j n ++ part_of words j room n ≡ pieces_below words j (n + many_pieces words j room n)
  unfolding lines_from
  part-follows (Err x) room zero h = sym (append-nil (first_of words (Err x)))
  part-follows (Err x) room (suc k) h = absurd (omega arith)
  part-follows (Ok a) room zero h = sym (append-nil (first_of words (Ok a)))
  part-follows (Ok a) room (suc k) h =
      let m = many_pieces words (Ok a) room (suc k) in
      let f = first_of words (Ok a) in
      append_assoc f (lines_from words a.layout 0 k) (lines_from words a.layout k m)
      ∙ ap (λ (ls : List ℕ). f ++ ls) (sym (lines_split words a.layout k m 0 ∙ rw zero-add))
      ∙ ap (pieces_below words (Ok a)) (sym (suc-add k m))

  -- all pieces are the whole
  pub all-pieces : (j : Result Accepted Refusal) → pieces_below words j (pieces j) ≡ whole_of j
  all-pieces j = rw add-one

  -- what lies behind the pieces below n
  pub behind : (j : Result Accepted Refusal) (n : ℕ) → n ≤ pieces j → (rest : List ℕ) × (whole_of j ≡ pieces_below words j n ++ rest)
  behind j zero h = (whole_of j, refl)
  behind (Err x) (suc k) h = ([], sym (append-nil (first_of words (Err x) ++ [])))
  behind (Ok a) (suc k) h =
      let all : a.transitions ≡ k + (a.transitions - k) = omega arith in (
        lines_from words a.layout k (a.transitions - k),
        ap (λ (n : ℕ). first_of words (Ok a) ++ lines_from words a.layout 0 n) all
            ∙ ap (λ (ls : List ℕ). first_of words (Ok a) ++ ls) (lines_split words a.layout k (a.transitions - k) 0 ∙ rw zero-add)
            ∙ sym (append_assoc (first_of words (Ok a)) (lines_from words a.layout 0 k) (lines_from words a.layout k (a.transitions - k))),
      )
