-- What is listed, an accepted table or a refusal: its words, of which a refusal needs none, what they are judged, and its whole listing.
use Rattle.std.specs.Prelude.{ℕ, List, [], ◌++◌, Result, Ok, Err}
use Rattle.paper.specs.declared.Refusal.{Refusal}
use Rattle.strategy.specs.declared.Accepted.{Accepted}
use Rattle.lister.specs.Listing.{first_of, transitions_of, lines_below}
use Rattle.lister.specs.declared.lines.Listed.{Listed}

abbrev pub words_in : Result Listed Refusal → List ℕ
words_in (Ok x) = x.basis.now.table.words.now
words_in (Err r) = []

abbrev pub judged_in : Result Listed Refusal → Result Accepted Refusal
judged_in (Ok x) = Ok x.basis.now.table.accepted
judged_in (Err r) = Err r

abbrev pub listing_in : Result Listed Refusal → List ℕ
listing_in x = first_of (words_in x) (judged_in x) ++ lines_below (words_in x) (judged_in x) (transitions_of (judged_in x))
