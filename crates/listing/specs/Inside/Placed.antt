-- Bytes put into a buffer at a place, and what each function that puts some promises.
use Rattle.std.specs.Prelude.{ℕ, ◌+◌, ◌≤◌, ◌≡◌, List, ◌++◌, length, take, drop}
use Rattle.listing.specs.declared.Pen.{Pen}

-- the buffer with the bytes from the place on, and as it was before and behind them
unfoldable pub placed : List ℕ → ℕ → List ℕ → List ℕ
placed old at bytes = take at old ++ bytes ++ drop (at + length bytes) old

-- the bytes were put at the place, and the answer is the place after them, within the buffer
pub record Put (old : List ℕ) (at : ℕ) (bytes new : List ℕ) (after : ℕ) : Type 0 where
  pub text : new ≡ placed old at bytes
  pub next : after ≡ at + length bytes
  pub within : after ≤ length old

-- so many bytes fit behind what the pen put so far
abbrev pub Room : Pen → ℕ → Type 0
Room pen n = pen.at + n ≤ length pen.buf.now

-- the pen put the bytes behind what it put so far, into the buffer that it had
pub record Puts (before : Pen) (bytes : List ℕ) (after : Pen) : Type 0 where
  pub there : after.buf.ref_ptr ≡ before.buf.ref_ptr
  pub same : after.buf.ghost_name ≡ before.buf.ghost_name
  pub as_long : length after.buf.now ≡ length before.buf.now
  pub put : Put before.buf.now before.at bytes after.buf.now after.at
