-- Laws of bytes put into a buffer: pieces put one after another are their join put at once; a store is a piece
-- of one byte; the buffer keeps its length. From the laws of `take` and `drop` at the seams.
use Prim.Native.Nat.{ℕ, ◌+◌, ◌-◌, ◌≤◌, ◌<◌}
use native.Mathlib.Nat.{add_assoc, add-zero}
use native.Mathlib.Numerals.{add-one}
use native.Mathlib.Omega.{arith}
use mathlib.Core.Path.{◌≡◌, refl, sym, ap, ◌∙◌}
use mathlib.Core.List.{List, [], ◌∷◌, ◌++◌, append_assoc, append-nil}
use lib.ListN.{length, take, drop, set, length-append, length-drop, take-append-drop}
use lib.Seq.{length-take-le, take_at, drop_at, drop-drop, set_split, append_snoc}
use Rattle.paper.proofs.Outcome.{by-equation}
use Rattle.listing.specs.declared.Pen.{Pen}
use borrow.Rule.Slice.PartMut.{put_mid, Post-is}
use Rattle.listing.specs.Inside.Placed.{placed, Put, Puts}

pub placed-nothing : (old : List ℕ) (at : ℕ) → placed old at [] ≡ old
unfolding placed
placed-nothing old at = rw (add-zero, append-nil) (take-append-drop at old)

pub placed-byte : (old : List ℕ) (at b : ℕ) → at < length old → set old at b ≡ placed old at (b ∷ [])
unfolding placed
placed-byte old at b h = rw (add-one, append_snoc) (set_split old at b h)

length_front : (old : List ℕ) (at : ℕ) (a : List ℕ) → at ≤ length old → length (take at old ++ a) ≡ at + length a
length_front old at a h = rw (length-append, length-take-le at old h)

pub length-placed : (old : List ℕ) (at : ℕ) (a : List ℕ) → at + length a ≤ length old → length (placed old at a) ≡ length old
unfolding placed
length-placed old at a h = rw (length-append, length_front old at a (omega arith), length-drop) (omega arith)

-- the second piece behind the first
pub placed-behind : (old : List ℕ) (at : ℕ) (a b : List ℕ) → at ≤ length old → placed (placed old at a) (at + length a) b ≡ placed old at (a ++ b)
unfolding placed
placed-behind old at a b h =
    let front : length (take at old ++ a) ≡ at + length a = length_front old at a h in
    rw (
      take_at (take at old ++ a) (drop (at + length a) old) (at + length a) front,
      ← drop-drop (length b) (at + length a) (take at old ++ a ++ drop (at + length a) old),
      drop_at (take at old ++ a) (drop (at + length a) old) (at + length a) front,
      drop-drop,
      append_assoc (take at old) a b,
      length-append a b,
      add_assoc,
    )

pub put-nothing : (old : List ℕ) (at : ℕ) → at ≤ length old → Put old at [] old at
put-nothing old at h = record { text = sym (placed-nothing old at); next = sym (add-zero at); within = h }

pub put-stored : (old : List ℕ) (at b : ℕ) → at < length old → Put old at (b ∷ []) (set old at b) (at + 1)
put-stored old at b h = record { text = placed-byte old at b h; next = refl; within = omega arith }

-- a piece copied into the part that is as long
pub put-part : (old : List ℕ) (at : ℕ) {word part : List ℕ} → at + length word ≤ length old → part ≡ word
    → Put old at word (put_mid at (at + length word - at) old part) (at + length word)
unfolding placed
put-part old at {word} room e =
    let behind = Post-is at (at + length word) old (omega arith) in
    record {
      text = rw (e, behind) (sym (append_assoc (take at old) word (drop (at + length word) old)));
      next = refl;
      within = room;
    }

module _ {old : List ℕ} {at : ℕ} {a mid : List ℕ} {m : ℕ} (p : Put old at a mid m) where
  pub put-length : length mid ≡ length old
  put-length = ap length p.text ∙ length-placed old at a (omega arith)

  -- two pieces put one after another
  pub put_then : {b new : List ℕ} {r : ℕ} → Put mid m b new r → Put old at (a ++ b) new r
  put_then {b} {new} {r} q =
      let l : length (a ++ b) ≡ length a + length b = length-append a b in
      record {
        text = q.text ∙ (rw (p.next, p.text) (placed-behind old at a b (omega arith)));
        next = omega arith;
        within = omega (arith, put-length);
      }

-- a pen that puts what a buffer gets
pub puts : {before after : Pen} {a : List ℕ} → after.buf.ref_ptr ≡ before.buf.ref_ptr → after.buf.ghost_name ≡ before.buf.ghost_name
    → Put before.buf.now before.at a after.buf.now after.at → Puts before a after
puts there same p = record { there = there; same = same; as_long = put-length p; put = p }

pub puts-nothing : (pen : Pen) → pen.at ≤ length pen.buf.now → Puts pen [] pen
puts-nothing pen h = puts refl refl (put-nothing pen.buf.now pen.at h)

pub puts_then : {before mid after : Pen} {a b : List ℕ} → Puts before a mid → Puts mid b after → Puts before (a ++ b) after
puts_then p q = puts (q.there ∙ p.there) (q.same ∙ p.same) (put_then p.put q.put)

-- what is put decides all
pub one-pen : {before one other : Pen} {bytes : List ℕ} → Puts before bytes one → Puts before bytes other → one ≡ other
one-pen p q = λ i. record {
  buf = record {
    ref_ptr = by-equation p.there q.there i;
    ghost_name = by-equation p.same q.same i;
    now = by-equation p.put.text q.put.text i;
  };
  at = by-equation p.put.next q.put.next i;
}
