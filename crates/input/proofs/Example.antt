-- The bytes of document 01's table are its words, low byte first; one byte is 17 at 0 (refusal 17), and three are 17 at 1.
use mathlib.Core.Path.{◌≡◌, refl}
use mathlib.Core.List.{[], ◌∷◌}
use Rattle.paper.specs.declared.refusals.Fault.TheVariants.{OddBytes}
use Rattle.paper.specs.Refusals.{fault_number}
use Rattle.written.specs.Example.{words_of_p}
use Rattle.strategy.specs.Verdict.{refused_at}
use Rattle.input.specs.Bytes.{words_of, judged_bytes}
use Rattle.input.specs.Example.{bytes_of_p}

pub words-of-P : words_of bytes_of_p ≡ words_of_p
unfolding words_of
words-of-P = refl

pub odd-bytes : (judged_bytes (2 ∷ []) ≡ refused_at OddBytes 0) × (judged_bytes (2 ∷ 0 ∷ 40 ∷ []) ≡ refused_at OddBytes 1) × (fault_number OddBytes ≡ 17)
unfolding judged_bytes
odd-bytes = (refl, refl, refl)
