-- The listing is written part after part. The invariant: all pieces below the next one were given and taken, so as many bytes are taken as
-- they have. Each part that is given is what follows there in the listing; after the last one all of it is taken.
use Prim.Native.Nat.{ℕ, ◌*◌, ◌<◌, ◌≤◌}
use native.Mathlib.Omega.{arith}
use mathlib.Core.Path.{◌≡◌, refl, sym, ap, ◌∙◌}
use mathlib.Core.Bool.{true, false}
use mathlib.Core.List.{List, ◌++◌}
use lib.ListN.{length, take, length-append}
use lib.Seq.{length-take-le}
use Rattle.answers.proofs.Accepted.{few-transitions}
use Rattle.listing.specs.declared.Pen.{Pen}
use Rattle.listing.specs.Inside.Placed.{Put}
use Rattle.lister.specs.declared.lines.Listed.{Listed}
use Rattle.lister.specs.declared.output.Written.{Written}
use Rattle.lister.specs.Listing.{first_of, transitions_of, lines_below, listing_of}
use Rattle.lister.specs.Inside.Steps.{pieces, pieces_below, part_of}
use Rattle.lister.specs.Running.{NextPart, HandedOver, Reached}
use Rattle.lister.specs.Inside.Steps.{PartPut}
use Rattle.lister.specs.Inside.Whole.{words_in, judged_in, listing_in}
use Rattle.lister.proofs.Pieces.{put_front, stands-between, part-follows, all-pieces, behind}
use Rattle.lister.proofs.PartsPut.{AcceptedIf, part-goes-on}
use Rattle.std.specs.Prelude.{Result, Ok, Err}
use Rattle.paper.specs.declared.Refusal.{Refusal}
use Rattle.strategy.specs.declared.Accepted.{Accepted}

pub record Writing (words : List ℕ) (j : Result Accepted Refusal) (text : List ℕ) (n : ℕ) (w : Written) : Type 0 where
  pub so_far : n ≤ pieces j
  pub taken : w.whole ≡ true
  pub at_is : w.at ≡ length (pieces_below words j n)
  pub low : w.at ≤ 65536 * n
  pub room : length text ≡ 65536

pub writing_begins : {words : List ℕ} {j : Result Accepted Refusal} {text : List ℕ} {w : Written} → (w.at ≡ 0) × (w.whole ≡ true) → length text ≡ 65536
    → Writing words j text 0 w
writing_begins (at, whole) room = record { so_far = omega arith; taken = whole; at_is = at; low = omega arith; room = room }

-- what is judged to be accepted is, and the listing is that of the bytes
pub record Prepared (bytes words : List ℕ) (j : Result Accepted Refusal) : Type 0 where
  pub accepted : AcceptedIf words j
  pub whole : first_of words j ++ lines_below words j (transitions_of j) ≡ listing_of bytes

pub prepared : {bytes : List ℕ} (x : Result Listed Refusal) → listing_in x ≡ listing_of bytes → Prepared bytes (words_in x) (judged_in x)
prepared x e = record { accepted = go x; whole = e }
  where
    go : (x : Result Listed Refusal) → AcceptedIf (words_in x) (judged_in x)
    go (Ok y) a q = y.basis.now.table.judged_so ∙ q
    go (Err r) a q = let z : ◌≡◌ {A = ℕ} 0 1 = cc in absurd (omega arith)

module _ {bytes words : List ℕ} {j : Result Accepted Refusal} (p : Prepared bytes words j) where
  few-pieces : pieces j ≤ 65536
  few-pieces = go j p.accepted
    where
      go : (i : Result Accepted Refusal) → AcceptedIf words i → pieces i ≤ 65536
      go (Err r) all = omega arith
      go (Ok a) all = let few = few-transitions words a (all a refl) in omega arith

  listing-is : listing_of bytes ≡ first_of words j ++ lines_below words j (transitions_of j)
  listing-is = sym p.whole

  module _ {before after : Pen} {n next : ℕ} {w : Written} (q : PartPut words j n before after next) (none : before.at ≡ 0)
      (i : Writing words j before.buf.now n w) (h : n < pieces j) where
    abbrev given : List ℕ
    given = take after.at after.buf.now

    in-front : Put before.buf.now 0 (part_of words j (length before.buf.now) n) after.buf.now after.at
    in-front = rw none at q.puts.put

    pub length-there : {text : List ℕ} → text ≡ after.buf.now → after.at ≤ length text
    length-there same = rw same (omega (arith, q.puts.put.within, q.puts.as_long))

    given-long : length given ≡ after.at
    given-long = length-take-le after.at after.buf.now (length-there refl)

    joined : pieces_below words j next ≡ pieces_below words j n ++ given
    joined =
        ap (pieces_below words j) q.many ∙ sym (part-follows words j (length before.buf.now) n h)
        ∙ ap (λ (ws : List ℕ). pieces_below words j n ++ ws) (sym (put_front in-front))

    pub goes_on : (n < next) × (next ≤ pieces j)
    goes_on =
        let (some, within) = part-goes-on words {n = n} j p.accepted (length before.buf.now) i.room h in
        (omega (arith, q.many), omega (arith, q.many))

    pub next-part : {text : List ℕ} → text ≡ after.buf.now → NextPart (listing_of bytes) w (take after.at text)
    next-part same =
        let (rest, e) = behind words j next goes_on.1 in
        rw same (record {
          taken = i.taken;
          follows = rw i.at_is (stands-between (pieces_below words j n) given rest (listing-is ∙ e ∙ ap (λ (ws : List ℕ). ws ++ rest) joined));
          few = omega (arith, i.low, given-long, q.puts.put.within, i.room, few-pieces);
        })

    goes-on : {written : Written} → HandedOver w given written → written.whole ≡ true → Writing words j after.buf.now next written
    goes-on g whole = record {
      so_far = goes_on.1;
      taken = whole;
      at_is = g.taken whole ∙ rw i.at_is (sym (ap length joined ∙ length-append (pieces_below words j n) given));
      low = let on = goes_on.0 in omega (arith, g.taken whole, i.low, given-long, q.puts.put.within, i.room);
      room = q.puts.as_long ∙ i.room;
    }

    pub writing-goes-on : {text : List ℕ} {written : Written} → text ≡ after.buf.now → HandedOver w (take after.at text) written
        → written.whole ≡ true → Writing words j text next written
    writing-goes-on same g whole = rw same (goes-on (rw same at g) whole)

  module _ {text : List ℕ} {n : ℕ} {w : Written} (i : Writing words j text n w) where
    within : w.at ≤ length (listing_of bytes)
    within =
        let (rest, e) = behind words j n i.so_far in
        omega (arith, i.at_is, ap length (listing-is ∙ e), length-append (pieces_below words j n) rest)

    -- a part that is not taken
    pub writing-stops : {part : List ℕ} {after : Written} → HandedOver w part after → after.whole ≡ false → Reached (listing_of bytes) after
    writing-stops g not-whole = record {
      within = omega (arith, within, g.not_taken not-whole);
      all = λ whole. let z : ◌≡◌ {A = ℕ} 0 1 = cc in absurd (omega arith);
    }

    pub writing-ends : pieces j ≤ n → Reached (listing_of bytes) w
    writing-ends h =
        let last : n ≡ pieces j = omega (arith, i.so_far) in
        let all = i.at_is ∙ ap (λ (m : ℕ). length (pieces_below words j m)) last ∙ ap length (all-pieces words j ∙ sym listing-is) in
        record { within = within; all = λ whole. all }
