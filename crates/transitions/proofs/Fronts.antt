-- Lists filled from the front: one element more put where the front ends, and one label more looked at.
use Prim.Native.Nat.{ℕ, suc, ◌+◌, ◌<◌, ◌≤◌}
use native.Mathlib.Omega.{arith}
use native.Mathlib.Numerals.{add-one}
use native.Mathlib.Nat.{add-zero}
use mathlib.Core.Path.{◌≡◌, refl, sym, ap, ◌∙◌}
use mathlib.Core.Bool.{Bool, true, false, cond}
use mathlib.Core.List.{List, [], ◌∷◌, ◌++◌, append_assoc, append-nil}
use lib.ListN.{length, get_or, set, take, drop, length-append, take-append-drop}
use lib.Seq.{drop-cons, set_at, take-suc, take-take, take_all}
use Rattle.paper.specs.Lists.{those}
use Rattle.paper.proofs.Lists.{those-append}
use Rattle.marks.specs.Marks.{is_marked}
use Rattle.transitions.specs.Inside.Assigned.{kept_of}

-- the front xs of length n, with one element more
pub front-more : (xs out : List ℕ) (n a : ℕ) → length xs ≡ n → n < length out → set (xs ++ drop n out) n a ≡ (xs ++ a ∷ []) ++ drop (n + 1) out
front-more xs out n a e h =
    ap (λ ys. set (xs ++ ys) n a) (drop-cons out n 0 h) ∙ set_at xs (get_or out n 0) (drop (suc n) out) a n e
    ∙ sym (append_assoc xs (a ∷ []) (drop (suc n) out)) ∙ ap (λ m. (xs ++ a ∷ []) ++ drop m out) (sym (add-one n))

module _ (p : ℕ → Bool) (xs : List ℕ) where
  abbrev kept : ℕ → List ℕ
  kept i = those p (take i xs)

  -- one label more
  pub those-more : (i : ℕ) → i < length xs → kept (i + 1) ≡ kept i ++ cond (p (get_or xs i 0)) (get_or xs i 0 ∷ []) []
  those-more i h = ap (λ m. those p (take m xs)) (add-one i) ∙ ap (those p) (take-suc xs i 0 h) ∙ those-append p (take i xs) (get_or xs i 0 ∷ [])

  length-one : (t : Bool) (a : ℕ) → length (cond t (a ∷ []) []) ≡ cond t 1 0
  length-one true a = refl
  length-one false a = refl

  pub count-more : (i : ℕ) → i < length xs → length (kept (i + 1)) ≡ length (kept i) + cond (p (get_or xs i 0)) 1 0
  count-more i h = ap length (those-more i h) ∙ length-append (kept i) _ ∙ ap (λ m. length (kept i) + m) (length-one (p (get_or xs i 0)) (get_or xs i 0))

  pub count-step : {i count : ℕ} {so : Bool} → i < length xs → count ≡ length (kept i) → so ≡ p (get_or xs i 0) → count + cond so 1 0 ≡ length (kept (i + 1))
  count-step {i} h e d = rw (e, d) (sym (count-more i h))

  -- fewer labels, fewer kept
  pub count-grows : (i j : ℕ) → i ≤ j → length (kept i) ≤ length (kept j)
  count-grows i j h =
      let parts = take-append-drop i (take j xs) in
      let e = ap (those p) (sym parts) ∙ those-append p (take i (take j xs)) (drop i (take j xs)) in
      let n = ap length e ∙ length-append (those p (take i (take j xs))) _ in
      omega (arith, n, ap (λ ys. length (those p ys)) (take-take i j xs h))

  -- a front of the labels kept so far takes in one more label
  put_step : (i filled : ℕ) (t : Bool) (out₀ : List ℕ) → i < length xs → t ≡ p (get_or xs i 0) → filled ≡ length (kept i) → (t ≡ true → filled < length out₀)
      → cond t (set (kept i ++ drop filled out₀) filled (get_or xs i 0)) (kept i ++ drop filled out₀) ≡ kept (i + 1) ++ drop (filled + cond t 1 0) out₀
  put_step i filled t out₀ h d e fits = rw (those-more i h, ← d) (go t fits)
    where
      go : (t : Bool) → (t ≡ true → filled < length out₀)
          → cond t (set (kept i ++ drop filled out₀) filled (get_or xs i 0)) (kept i ++ drop filled out₀)
          ≡ (kept i ++ cond t (get_or xs i 0 ∷ []) []) ++ drop (filled + cond t 1 0) out₀
      go true fits = front-more (kept i) out₀ filled (get_or xs i 0) (sym e) (fits refl)
      go false fits = rw (append-nil, add-zero)

-- The loop of `fill_assigned`: i of the labels ws are passed, and those of them that are kept stand at the front of what was out₀.
pub record Filling (ws bytes out₀ out : List ℕ) (filled i : ℕ) : Type 0 where
  pub same_length : length out ≡ length out₀
  pub filled_is : filled ≡ length (kept_of bytes (take i ws))
  pub out_is : out ≡ kept_of bytes (take i ws) ++ drop filled out₀

pub filling-begins : {ws bytes out₀ : List ℕ} → Filling ws bytes out₀ out₀ 0 0
filling-begins = record { same_length = refl; filled_is = refl; out_is = refl }

module _ {ws bytes out₀ out : List ℕ} {filled i : ℕ} (room : length (kept_of bytes ws) ≤ length out₀) (f : Filling ws bytes out₀ out filled i)
    (more : i < length ws) where
  -- there is room for one more that is kept
  pub filling-room : is_marked bytes (get_or ws i 0) ≡ true → filled < length out
  filling-room on =
      omega (
        arith,
        f.same_length,
        count-step (is_marked bytes) ws more f.filled_is (sym on),
        count-grows (is_marked bytes) ws (i + 1) (length ws) (omega arith),
        ap (λ ys. length (kept_of bytes ys)) (take_all (length ws) ws (omega arith)),
      )

  turned : {so : Bool} → so ≡ is_marked bytes (get_or ws i 0) → {out' : List ℕ} {filled' : ℕ} → length out' ≡ length out
      → out' ≡ cond so (set out filled (get_or ws i 0)) out → filled' ≡ filled + cond so 1 0 → Filling ws bytes out₀ out' filled' (i + 1)
  turned {so} so-is same d e =
      let fits : so ≡ true → filled < length out₀ = λ on. let r = filling-room (sym so-is ∙ on) in let s = f.same_length in omega arith in
      record {
        same_length = same ∙ f.same_length;
        filled_is = e ∙ count-step (is_marked bytes) ws more f.filled_is so-is;
        out_is = d ∙ rw (f.out_is, e) (put_step (is_marked bytes) ws i filled so out₀ more so-is f.filled_is fits);
      }

  module _ {out' : List ℕ} {filled' : ℕ} (same : length out' ≡ length out) where
    pub filling-puts : is_marked bytes (get_or ws i 0) ≡ true → out' ≡ set out filled (get_or ws i 0) → filled' ≡ filled + 1
        → Filling ws bytes out₀ out' filled' (i + 1)
    filling-puts on d e = turned (sym on) same d e

    pub filling-passes : is_marked bytes (get_or ws i 0) ≡ false → out' ≡ out → filled' ≡ filled → Filling ws bytes out₀ out' filled' (i + 1)
    filling-passes off d e = turned (sym off) same d (omega arith)
