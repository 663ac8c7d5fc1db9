-- `accepted` puts the word, the four counts and the end of the line, one after another.
use Prim.Native.Nat.{ℕ}
use mathlib.Core.List.{List, [], ◌∷◌}
use Rattle.listing.specs.Text.{ascii, fields, accepted_line}
use Rattle.listing.proofs.Placing.{puts_then}
use Rattle.listing.proofs.Texts.{put-one-more}
use Rattle.listing.proofs.Pen.accepted.Goals as goal

pub returns-clause-put : goal.returns-clause-put
unfolding fields accepted_line
returns-clause-put c =
    let a = c.args in
    let word : List ℕ = ascii "accepted" in
    let one = put-one-more word [] a.variables c.word.ensures c.field.ensures.put in
    let two = put-one-more word (a.variables ∷ []) a.rows one c.field-2.ensures.put in
    let three = put-one-more word (a.variables ∷ a.rows ∷ []) a.chosen two c.field-3.ensures.put in
    let all = put-one-more word (a.variables ∷ a.rows ∷ a.chosen ∷ []) a.transitions three c.field-4.ensures.put in
    puts_then all c.byte.ensures
