-- What the lister reads and writes: how much it reads, that each part that it writes comes next in the listing, and how far the listing is
-- written when it ends.
use Rattle.std.specs.Prelude.{ℕ, ◌+◌, ◌^◌, ◌<◌, ◌≤◌, true, false, List, ◌≡◌, length, take, drop}
use Rattle.paper.specs.Limits.{most_bytes}
use Rattle.lister.specs.declared.Ran.{Ran}
use Rattle.lister.specs.declared.output.Written.{Written}
use Rattle.lister.specs.declared.reading.Read.{Read}
use Rattle.lister.specs.Listing.{listing_of}

-- at most so many bytes are read; fewer only where a reading call gave nothing more
pub record ReadSo (read : Read) : Type 0 where
  pub within : read.count ≤ most_bytes
  pub full : read.ended ≡ false → read.count ≡ most_bytes

-- The part of a listing that comes next: all before it was given and taken, and it is what follows there.
pub record NextPart (listing : List ℕ) (w : Written) (part : List ℕ) : Type 0 where
  pub taken : w.whole ≡ true
  pub follows : part ≡ take (length part) (drop w.at listing)
  pub few : w.at + length part < 2 ^ 64

-- it was given: and taken, or not
pub record HandedOver (before : Written) (part : List ℕ) (after : Written) : Type 0 where
  pub taken : after.whole ≡ true → after.at ≡ before.at + length part
  pub not_taken : after.whole ≡ false → after.at ≡ before.at

-- How far a listing is written: all of it, where all that was given was taken.
pub record Reached (listing : List ℕ) (w : Written) : Type 0 where
  pub within : w.at ≤ length listing
  pub all : w.whole ≡ true → w.at ≡ length listing

-- What was read stands in front of the buffer, and its listing is written so far.
pub record RanSo (buffer : List ℕ) (r : Ran) : Type 0 where
  pub read_so : ReadSo r.read
  pub written_so : Reached (listing_of (take r.read.count buffer)) r.written
