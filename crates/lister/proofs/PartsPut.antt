-- The parts that are put: the first one, of a refusal or of an acceptance, and the lines of the transitions that come next. Each has at
-- least one piece, and none goes beyond the last.
use Prim.Native.Nat.{ℕ, zero, suc, ◌+◌, ◌-◌, ◌<◌, ◌≤◌}
use native.Mathlib.Omega.{arith}
use mathlib.Core.Path.{◌≡◌, refl, ap}
use mathlib.Core.List.{List}
use lib.ListN.{length, take}
use Rattle.paper.specs.declared.Refusal.{Refusal}
use Rattle.paper.specs.Refusals.{fault_number}
use Rattle.strategy.specs.declared.Accepted.{Accepted}
use Rattle.answers.specs.Inside.Judged.{AcceptedAs, Ordered}
use Rattle.answers.proofs.Accepted.{few-transitions}
use Rattle.listing.specs.Text.{refused_line}
use Rattle.listing.specs.declared.Pen.{Pen}
use Rattle.listing.specs.Inside.Placed.{Puts}
use Rattle.lister.specs.Listing.{head_of}
use Rattle.lister.specs.Inside.Steps.{pieces}
use Rattle.lister.specs.Inside.Steps.{LinesPut, many_pieces, PartPut}
use Rattle.lister.proofs.Asked.{line-room}
use Rattle.lister.proofs.LinesPut.{fits-within, fits-some}
use Rattle.std.specs.Prelude.{Result, Ok, Err}

module _ {words : List ℕ} {n : ℕ} {before after : Pen} where
  pub refused-part : (x : Refusal) → n < pieces (Err x) → Puts before (refused_line (fault_number x.fault) x.place) after
      → PartPut words (Err x) n before after 1
  refused-part x h p = let first : n ≡ 0 = omega arith in rw first (record { many = refl; puts = p })

  module _ {a : Accepted} {order : List ℕ} (o : Ordered words a order) where
    pub head-part : n ≡ 0 → Puts before (head_of a (take a.layout.chosen order)) after → PartPut words (Ok a) n before after 1
    head-part first p = rw first (record { many = refl; puts = rw o.is_in_front at p })

    module _ {count : ℕ} where
      -- no more lines are put than there are transitions
      pub lines-few : n < pieces (Ok a) → LinesPut words a (n - 1) before after count → n + count ≤ 131072
      lines-few h p =
          let few = few-transitions words a o.accepted in
          let within = fits-within words a.layout (length before.buf.now) 0 (n - 1) (a.transitions - (n - 1)) in
          omega (arith, p.many)

      pub lines-part : (n ≡ 0 → ⊥) → LinesPut words a (n - 1) before after count → PartPut words (Ok a) n before after (n + count)
      lines-part some p = go n refl some p
        where
          go : (m : ℕ) → n ≡ m → (m ≡ 0 → ⊥) → LinesPut words a (m - 1) before after count
              → PartPut words (Ok a) m before after (m + count)
          go zero e some p = absurd (some refl)
          go (suc k) e some p =
              let one : suc k - 1 ≡ k = omega arith in
              let q = rw one at p in
              record { many = ap (λ (m : ℕ). suc k + m) q.many; puts = rw q.many at q.puts }

-- what is judged to be accepted is
abbrev pub AcceptedIf : List ℕ → Result Accepted Refusal → Type 0
AcceptedIf words j = (a : Accepted) → j ≡ Ok a → AcceptedAs words a

-- how many pieces a part has
pub part-goes-on : (words : List ℕ) {n : ℕ} (j : Result Accepted Refusal) → AcceptedIf words j → (room : ℕ) → room ≡ 65536 → n < pieces j
    → (0 < many_pieces words j room n) × (n + many_pieces words j room n ≤ pieces j)
part-goes-on words {n} j o room e h = go j o n h
  where
    go : (j : Result Accepted Refusal) → AcceptedIf words j → (n : ℕ) → n < pieces j
        → (0 < many_pieces words j room n) × (n + many_pieces words j room n ≤ pieces j)
    go j o zero h = (omega arith, omega arith)
    go (Err x) o (suc k) h = absurd (omega arith)
    go (Ok a) o (suc k) h =
        let some = fits-some words a.layout room k (a.transitions - k) (line-room words a (o a refl) room e) (omega arith) in
        let within = fits-within words a.layout room 0 k (a.transitions - k) in
        (some, omega arith)
