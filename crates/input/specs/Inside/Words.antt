-- What putting the words of bytes leaves.
use Rattle.std.specs.Prelude.{ℕ, ◌/◌, List, ◌≡◌, length}
use Rattle.entries.specs.Front.{in_front}
use Rattle.input.specs.Bytes.{words_of}

-- the words of the bytes stand in front of what was there, and how many they are
pub record WordsIn (bytes lent left : List ℕ) (count : ℕ) : Type 0 where
  pub many : count ≡ length (words_of bytes)
  pub half : count ≡ length bytes / 2
  pub stand : left ≡ in_front (words_of bytes) lent
