-- `refused` puts the word, the refusal's number, its place and the end of the line, one after another.
use Prim.Native.Nat.{ℕ}
use mathlib.Core.List.{List, [], ◌∷◌}
use Rattle.listing.specs.Text.{ascii, fields, refused_line}
use Rattle.listing.proofs.Placing.{puts_then}
use Rattle.listing.proofs.Texts.{put-one-more}
use Rattle.listing.proofs.Pen.refused.Goals as goal

pub returns-clause-put : goal.returns-clause-put
unfolding fields refused_line
returns-clause-put c =
    let a = c.args in
    let word : List ℕ = ascii "refused" in
    let one = put-one-more word [] a.number c.word.ensures (rw c.from.ensures at c.field.ensures.put) in
    let both = put-one-more word (a.number ∷ []) a.place one c.field-2.ensures.put in
    puts_then both c.byte.ensures
