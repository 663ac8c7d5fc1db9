-- Bit b of the masks of a conjunction of two is the paper's cover of a conjunction of two, by bit b of each.
use Prim.Native.Nat.{ℕ}
use mathlib.Core.Path.{◌≡◌, refl, ◌∙◌}
use mathlib.Core.Bool.{Bool, true}
use lib.Bits.{bit_and, bit_or}
use Rattle.std.specs.Prelude.{Option, None, Some, is_some}
use Rattle.std.specs.Option.{unwrap_or}
use Rattle.paper.specs.Inside.Structure.Cover.{Cover, cover, both_cover}
use Rattle.cover.specs.declared.Masks.{Masks}
use Rattle.cover.specs.Inside.Masks.{no_branch, join_masks, bit_at}
use Rattle.cover.proofs.Bits.{and-bit, or-bit}

-- bit b of each word, as the cover of one variable
abbrev pub cover_at : ℕ → Option Masks → Cover
cover_at b v = let w = unwrap_or v no_branch in cover (is_some v) (bit_at w.always b) (bit_at w.ever b) (bit_at w.twice b)

pub covers : {l a b e f t u : Bool} → a ≡ b → e ≡ f → t ≡ u → cover l a e t ≡ cover l b f u
covers p q r = cc

pub both_bits : (b : ℕ) (v w : Option Masks) → cover_at b (join_masks true v w) ≡ both_cover (is_some v) (is_some w) (cover_at b v) (cover_at b w)
unfolding join_masks
both_bits b None w = refl
both_bits b (Some x) None = refl
both_bits b (Some x) (Some y) =
    covers (or-bit x.always y.always b) (or-bit x.ever y.ever b)
    (or-bit (bit_or x.twice y.twice) (bit_and x.ever y.ever) b ∙ cc (or-bit x.twice y.twice b, and-bit x.ever y.ever b))
