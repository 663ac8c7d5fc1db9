-- The search for the lowest missed and the lowest doubled variable, a block of 64 variables a turn: what one block's masks say
-- of its variables, and how the lowest below m + v comes from the lowest below v and the lowest of the m after that.
use Prim.Native.Nat.{ℕ, zero, suc, ◌+◌, ◌-◌, ◌*◌, ◌/◌, ◌%◌, ◌<◌, ◌≤◌, min}
use native.Mathlib.Nat.{add-zero, add-suc, div-add-mod', mod-lt, le_refl}
use native.Mathlib.Omega.{arith}
use mathlib.Core.Path.{◌≡◌, refl, sym, ap, ◌∙◌}
use mathlib.Core.Bool.{Bool, true, false, cond}
use mathlib.Core.List.{List}
use lib.Dec.{ltb, leb-suc-suc}
use mir.Syntax.{w64}
use borrow.Author.Tests.{lt-ltb, le-ltb}
use Rattle.std.specs.Prelude.{Ok, Err}
use Rattle.std.specs.Int.{bit_not}
use Rattle.paper.specs.Formula.{𝓋}
use Rattle.entries.specs.First.{first}
use Rattle.entries.proofs.First.{first-le, first-same}
use Rattle.cover.specs.declared.Masks.{Masks}
use Rattle.cover.specs.declared.Uncovered.TheVariants.{Missed, Doubled}
use Rattle.cover.specs.Inside.Masks.{masks_in, bit_at, is_missed, is_doubled, covering_of, further}
use Rattle.cover.proofs.Bits.{not-bit}

further-suc : (t : Bool) (p q v found : ℕ) → p ≡ further q v found → cond t 0 (suc p) ≡ further (cond t 0 (suc q)) (suc v) found
further-suc true p q v found e = rw (lt-ltb 0 (suc v) (omega arith))
further-suc false p q v found e = rw (e, leb-suc-suc (suc q) v, add-suc found v) (out (ltb q v))
  where
    out : (t : Bool) → suc (cond t q (found + v)) ≡ cond t (suc q) (suc (found + v))
    out true = refl
    out false = refl

pub first-add : (bad : ℕ → Bool) (m v : ℕ) → first bad (m + v) ≡ further (first bad v) v (first (λ k. bad (k + v)) m)
unfolding first
first-add bad m zero = simp add-zero
first-add bad m (suc v) =
    rw (add-suc m v) (further-suc (bad 0) _ _ v _ (first-add (λ k. bad (suc k)) m v))
    ∙ ap (further (first bad (suc v)) (suc v)) (first-same (λ k. bad (suc (k + v))) (λ k. bad (k + suc v)) m (λ k h. rw (add-suc k v)))

-- a search that passed v and found the next a places on, below m, has the lowest
found-on : (bad : ℕ → Bool) (v m a n : ℕ) → first bad v ≡ v → a ≡ first (λ k. bad (k + v)) m → a < m → m + v ≤ n → first bad n ≡ a + v
found-on bad v m a n p q h w =
    let s : first bad (m + v) ≡ a + v = first-add bad m v ∙ rw (p, ← q, le-ltb v v (le_refl v)) in
    let u : n ≡ (n - (m + v)) + (m + v) = omega arith in
    rw u (first-add bad (n - (m + v)) (m + v) ∙ rw (s, lt-ltb (a + v) (m + v) (omega arith)))

-- and one that found none there has passed them too
passed_on : (bad : ℕ → Bool) (v m a : ℕ) → first bad v ≡ v → a ≡ first (λ k. bad (k + v)) m → m ≤ a → first bad (m + v) ≡ m + v
passed_on bad v m a p q h =
    let t : a ≡ m = omega (arith, first-le (λ k. bad (k + v)) m) in
    first-add bad m v ∙ rw (p, ← q, t, le-ltb v v (le_refl v))

-- variable b + v is bit b of the block that begins with variable v
block_of : (b block v : ℕ) → b < 64 → v ≡ 64 * block → (b + v) / 64 ≡ block
block_of b block v h e = omega (arith, div-add-mod' (b + v) 64, mod-lt (b + v) {m = 64} (omega arith))

bit-of : (b block v : ℕ) → b < 64 → v ≡ 64 * block → (b + v) % 64 ≡ b
bit-of b block v h e = omega (arith, div-add-mod' (b + v) 64, mod-lt (b + v) {m = 64} (omega arith))

module _ (rows marks : List ℕ) {w : Masks} (block v m : ℕ) (e : w ≡ masks_in rows marks block) (at : v ≡ 64 * block) (few : m ≤ 64) where
  missed-in-block : w.always < 18446744073709551616 → first (bit_at (bit_not w64 w.always)) m ≡ first (λ b. is_missed rows marks (b + v)) m
  unfolding is_missed
  missed-in-block fits =
      first-same _ _ m λ b h. let l : b < 64 = omega arith in not-bit w.always b fits l ∙ rw (block_of b block v l at, bit-of b block v l at, e)

  doubled-in-block : first (bit_at w.twice) m ≡ first (λ b. is_doubled rows marks (b + v)) m
  unfolding is_doubled
  doubled-in-block = first-same _ _ m λ b h. let l : b < 64 = omega arith in rw (block_of b block v l at, bit-of b block v l at, e)

-- the lowest doubled is one of the block if none was found before it, else it stays
module _ {two v two' : ℕ} (found : ℕ) where
  pub further-found : two ≡ v → two' ≡ two + found → two' ≡ further two v found
  further-found d f = rw (le-ltb two v (omega arith)) (omega arith)

  pub further-kept : two ≤ v → (two ≡ v → ⊥) → two' ≡ two → two' ≡ further two v found
  further-kept within apart f = rw (lt-ltb two v (omega arith)) f

-- the variables of the first so many blocks
abbrev pub variables_in : ℕ → ℕ → ℕ
variables_in #V block = min (64 * block) #V

-- What the loop has shown where so many blocks are passed: none of their variables is missed, and `two` is the lowest doubled.
pub record Passed (rows marks : List ℕ) (#V block two : ℕ) : Type 0 where
  pub none_missed : first (is_missed rows marks) (variables_in #V block) ≡ variables_in #V block
  pub lowest_doubled : two ≡ first (is_doubled rows marks) (variables_in #V block)

pub passed_none : {rows marks : List ℕ} {#V : ℕ} → Passed rows marks #V 0 0
unfolding first
passed_none {#V = #V} = let none : variables_in #V 0 ≡ 0 = omega arith in record { none_missed = rw none; lowest_doubled = rw none }

module _ {rows marks : List ℕ} {#V block two : ℕ} (s : Passed rows marks #V block two) where
  -- a turn: the next m variables are those of the block, and `one` is the lowest missed of them, or m
  module _ {v m : ℕ} (at : v ≡ 64 * block) (more : v < #V) (size : m ≡ min (#V - v) 64) {w : Masks} (e : w ≡ masks_in rows marks block)
      (fits : w.always < 18446744073709551616) {one : ℕ} (found : one ≡ first (bit_at (bit_not w64 w.always)) m) where
    here : variables_in #V block ≡ v
    here = omega arith

    passed-missed : first (is_missed rows marks) v ≡ v
    passed-missed = rw here at s.none_missed

    passed-doubled : two ≡ first (is_doubled rows marks) v
    passed-doubled = rw here at s.lowest_doubled

    missed-next : one ≡ first (λ b. is_missed rows marks (b + v)) m
    missed-next = found ∙ missed-in-block rows marks block v m e at (omega arith) fits

    pub passing-stops : {missed : ℕ} → one < m → missed ≡ v + one → Err (Missed (𝓋 missed)) ≡ covering_of rows marks #V
    unfolding covering_of
    passing-stops h d =
        let sum : v + one ≡ one + v = omega arith in
        rw (d, sum, found-on (is_missed rows marks) v m one #V passed-missed missed-next h (omega arith), lt-ltb (one + v) #V (omega arith))

    pub passing-goes-on : {two' : ℕ} → m ≤ one → two' ≡ further two v (first (bit_at w.twice) m) → Passed rows marks #V (block + 1) two'
    passing-goes-on h next =
        let on : variables_in #V (block + 1) ≡ m + v = omega arith in
        record {
          none_missed = rw on (passed_on (is_missed rows marks) v m one passed-missed missed-next h);
          lowest_doubled =
              rw (on, next, passed-doubled, doubled-in-block rows marks block v m e at (omega arith)) (sym (first-add (is_doubled rows marks) m v));
        }

  pub two-within : two ≤ 64 * block
  two-within = let h = first-le (is_doubled rows marks) (variables_in #V block) in omega (arith, s.lowest_doubled)

  -- the end: no variable is missed
  module _ (end : #V ≤ 64 * block) where
    all-passed : variables_in #V block ≡ #V
    all-passed = omega arith

    not-missed : first (is_missed rows marks) #V ≡ #V
    not-missed = rw all-passed at s.none_missed

    lowest : two ≡ first (is_doubled rows marks) #V
    lowest = rw all-passed at s.lowest_doubled

    pub passing-ends-doubled : two < #V → Err (Doubled (𝓋 two)) ≡ covering_of rows marks #V
    unfolding covering_of
    passing-ends-doubled h = rw (not-missed, le-ltb #V #V (le_refl #V), ← lowest, lt-ltb two #V h)

    pub passing-ends-covered : #V ≤ two → Ok tt ≡ covering_of rows marks #V
    unfolding covering_of
    passing-ends-covered h = rw (not-missed, le-ltb #V #V (le_refl #V), ← lowest, le-ltb two #V h)
