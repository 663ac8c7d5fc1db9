-- No table has more than 29,700 words: the bounds of its four counts say so. Longer bytes are refused: for being odd, or for their words,
-- which are more.
use Prim.Native.Nat.{ℕ, ◌/◌, ◌%◌, ◌<◌}
use native.Mathlib.Omega.{arith}
use mathlib.Core.Path.{◌≡◌, refl, ap, ◌∙◌}
use mathlib.Core.Bool.{Bool, true, false, cond}
use mathlib.Core.List.{List}
use lib.ListN.{length, length-append}
use borrow.Author.Tests.{eqb-false}
use Rattle.paper.specs.declared.refusals.Fault.TheVariants.{OddBytes}
use Rattle.paper.specs.declared.Refusal.{Refusal}
use Rattle.written.proofs.Tables.{understood}
use Rattle.strategy.specs.Verdict.{refused_at}
use Rattle.strategy.specs.Judge.{judged_of}
use Rattle.strategy.proofs.Exactly.{accepted-so}
use Rattle.input.specs.Bytes.{words_of, are_odd, judged_bytes}
use Rattle.input.specs.Length.{SoundShort, AreRefused, LongRefused, RestNeverNeeded}
use Rattle.paper.specs.Limits.{most_words}
use Rattle.input.proofs.BytePairs.{words-length}
use Rattle.std.specs.Prelude.{Result, Ok, Err}
use Rattle.strategy.specs.declared.Accepted.{Accepted}

pub sound-short : SoundShort
sound-short words l e = (understood words l e).at_most_words

-- long words are not accepted
words-refused : (words : List ℕ) → most_words < length words → (x : Refusal) × (judged_of words ≡ Err x)
words-refused words h = go (judged_of words) refl
  where
    go : (j : Result Accepted Refusal) → judged_of words ≡ j → (x : Refusal) × (judged_of words ≡ Err x)
    go (Err x) e = (x, e)
    go (Ok a) e =
        let short = sound-short words a.layout (accepted-so words a.layout a.transitions e).sound in
        absurd (omega arith)

pub long-refused : LongRefused
unfolding judged_bytes
long-refused bytes h = go (are_odd bytes) refl
  where
    go : (odd : Bool) → are_odd bytes ≡ odd → AreRefused bytes
    go true e = (_, ap (λ b. cond b (refused_at OddBytes (length bytes / 2)) (judged_of (words_of bytes))) e)
    go false e =
        let even = eqb-false (length bytes % 2) 1 e in
        let (x, q) = words-refused (words_of bytes) (omega (arith, words-length bytes)) in
        (x, ap (λ b. cond b (refused_at OddBytes (length bytes / 2)) (judged_of (words_of bytes))) e ∙ q)

pub rest-never-needed : RestNeverNeeded
rest-never-needed bytes rest n = (long-refused bytes (omega arith), long-refused _ (omega (arith, length-append bytes rest)))
