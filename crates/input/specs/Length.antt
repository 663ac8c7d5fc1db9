-- How long a table is: at most 29,700 words (document 01, "The formula table"). The lister reads at most 65,536 bytes, the first ones of a
-- longer file, and no table reaches that length (document 01, "Refusal numbers, in the order of checks").
use Rattle.std.specs.Prelude.{ℕ, ◌*◌, ◌<◌, ◌≤◌, List, ◌++◌, ◌≡◌, length, Ok, Err}
use Rattle.paper.specs.declared.Refusal.{Refusal}
use Rattle.paper.specs.Limits.{most_bytes, most_words}
use Rattle.table.specs.declared.Layout.{Layout}
use Rattle.table.specs.Table.{checked}
use Rattle.input.specs.Bytes.{judged_bytes}

-- sound words are no more
abbrev pub SoundShort : Type 0
SoundShort = (words : List ℕ) (l : Layout) → checked words ≡ Ok l → length words ≤ most_words

-- bytes that are refused
abbrev pub AreRefused : List ℕ → Type 0
AreRefused bytes = (x : Refusal) × (judged_bytes bytes ≡ Err x)

-- more bytes are refused
abbrev pub LongRefused : Type 0
LongRefused = (bytes : List ℕ) → 2 * most_words < length bytes → AreRefused bytes

-- so where as many bytes are read as may be, they are refused whatever follows them, and so would they be with what follows
abbrev pub RestNeverNeeded : Type 0
RestNeverNeeded = (bytes rest : List ℕ) → length bytes ≡ most_bytes → AreRefused bytes × AreRefused (bytes ++ rest)
