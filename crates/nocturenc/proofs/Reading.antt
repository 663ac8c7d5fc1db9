-- What C reads from a packed answer is what was packed: each part has its own bits.
use Prim.Native.Nat.{ℕ, ◌≤◌}
use native.Mathlib.Omega.{arith}
use mathlib.Core.Path.{◌≡◌, refl}
use Rattle.paper.specs.Limits.{most_rows}
use Rattle.paper.specs.declared.Refusal.{Refusal}
use Rattle.paper.specs.Refusals.{fault_number}
use Rattle.filling.specs.declared.Length.{Length}
use Rattle.answers.specs.declared.Counts.{Counts}
use Rattle.answers.specs.Inside.Judged.{FitCounts}
use Rattle.nocturenc.specs.Packed.{refused_as, counts_of, packed_answer, packed_filled, ReadRefusal, ReadFilling, AnswerPacked}
use Rattle.std.specs.Prelude.{Ok, Err}

pub read-counts : (c : Counts) (n : ℕ) → FitCounts c → n ≡ counts_of c → AnswerPacked (Ok c) n
unfolding packed_answer
read-counts c n h e = record {
  answered = e;
  read_so = record {
    no_refusal = omega arith;
    variables_are = omega arith;
    rows_are = omega arith;
    chosen_are = omega arith;
    transitions_are = omega arith;
  };
}

pub read-refused : (r : Refusal) (n : ℕ) → n ≡ refused_as (fault_number r.fault) r.place → ReadRefusal r n → AnswerPacked (Err r) n
unfolding packed_answer
read-refused r n e h = record { answered = e; read_so = h }

pub read-filled : (l : Length) → l.count ≤ most_rows → (l.count ≡ packed_filled (Ok l)) × ReadFilling (Ok l) l.count
unfolding packed_filled
read-filled l h = (refl, record { no_refusal = omega arith; count_is = refl })

pub read-unfilled : (r : Refusal) (n : ℕ) → n ≡ refused_as (fault_number r.fault) r.place → ReadRefusal r n
    → (n ≡ packed_filled (Err r)) × ReadFilling (Err r) n
unfolding packed_filled
read-unfilled r n e h = (e, h)
