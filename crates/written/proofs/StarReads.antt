-- The reads that a formula's stars take, one star after another.
use Prim.Native.Nat.{◌+◌}
use mathlib.Core.Path.{◌≡◌, refl, sym, ap, ◌∙◌}
use mathlib.Core.List.{List, [], ◌∷◌, ◌++◌, append_assoc}
use lib.ListN.{length, length-append, length-map}
use Rattle.paper.specs.Formula.{Star}
use Rattle.written.specs.Written.{read_words, reads_from}

-- the reads of two lists of stars, and how many there are
pub reads-append : (ss us : List Star) → reads_from (ss ++ us) ≡ reads_from ss ++ reads_from us
reads-append [] us = refl
reads-append (s ∷ ss) us = rw (reads-append ss us) (sym (append_assoc (read_words s) (reads_from ss) (reads_from us)))

pub taken-star : (s : Star) (ss : List Star) → length (reads_from (s ∷ ss)) ≡ length s.reads + length (reads_from ss)
taken-star s ss = simp (length-append, length-map)

pub taken-append : (ss us : List Star) → length (reads_from (ss ++ us)) ≡ length (reads_from ss) + length (reads_from us)
taken-append ss us = ap length (reads-append ss us) ∙ length-append (reads_from ss) (reads_from us)
