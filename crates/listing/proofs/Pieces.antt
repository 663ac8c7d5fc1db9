-- Pieces put one after another, one a turn and each of six bytes at most: what is in the buffer after i turns, by what the text has
-- more after each. The text is any that begins with nothing.
use Prim.Native.Nat.{ℕ, ◌+◌, ◌*◌, ◌≤◌, ◌<◌}
use native.Mathlib.Omega.{arith}
use mathlib.Core.Path.{◌≡◌}
use mathlib.Core.List.{List, [], ◌++◌}
use lib.ListN.{length}
use Rattle.listing.specs.declared.Pen.{Pen}
use Rattle.listing.specs.Inside.Placed.{Puts}
use Rattle.listing.proofs.Placing.{puts-nothing, puts_then}

-- of n turns i are done
pub record Putting (text : ℕ → List ℕ) (n : ℕ) (before after : Pen) (i : ℕ) : Type 0 where
  pub so_far : i ≤ n
  pub room : after.at ≤ before.at + 6 * i
  pub puts : Puts before (text i) after

module _ {text : ℕ → List ℕ} {n : ℕ} {before : Pen} where
  pub putting-starts : text 0 ≡ [] → before.at ≤ length before.buf.now → Putting text n before before 0
  putting-starts none h = record { so_far = omega arith; room = omega arith; puts = rw none (puts-nothing before h) }

  pub putting-goes-on : {mid after : Pen} {piece : List ℕ} {i : ℕ} → Putting text n before mid i → i < n → text (i + 1) ≡ text i ++ piece
      → Puts mid piece after → after.at ≤ mid.at + 6 → Putting text n before after (i + 1)
  putting-goes-on p h more q six = record {
    so_far = omega arith;
    room = omega (arith, p.room);
    puts = rw more (puts_then p.puts q);
  }
