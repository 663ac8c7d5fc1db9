-- A list stands at a place of another if the entries from there on are its own. What stands side by side stands together,
-- and what stands together stands in its parts.
use Prim.Native.Nat.{ℕ, ◌+◌, ◌<◌, ◌≤◌}
use native.Mathlib.Omega.{arith}
use mathlib.Core.Path.{◌≡◌, refl, sym, ap, ap₂, ◌∙◌}
use mathlib.Core.List.{List, [], ◌++◌}
use lib.ListN.{length, get_or, take, drop, length-take, length-append}
use lib.Seq.{take-length, take-append_seam, drop-append_seam, take-take, take-add, drop-drop, get_or-take, get_or-drop}

-- ys stand in xs from place k on
pub record Stands {A : Type 0} (xs : List A) (k : ℕ) (ys : List A) : Type 0 where
  pub is : take (length ys) (drop k xs) ≡ ys

pub stands-whole : {A : Type 0} (xs : List A) → Stands xs 0 xs
stands-whole xs = record { is = take-length xs }

module _ {A : Type 0} {xs : List A} {k : ℕ} where
  pub stands-none : Stands xs k []
  stands-none = record { is = refl }

  pub stands-room : (ys : List A) → Stands xs k ys → length ys ≤ length (drop k xs)
  stands-room ys h = omega (arith, ap length h.is, length-take (length ys) (drop k xs))

  -- it stands at the front of what follows the place
  pub stands-there : (ys : List A) → Stands xs k ys → Stands (drop k xs) 0 ys
  stands-there ys h = record { is = h.is }

  pub stands-joined : {j : ℕ} (ys zs : List A) → k + length ys ≡ j → Stands xs k ys → Stands xs j zs → Stands xs k (ys ++ zs)
  stands-joined {j} ys zs e a b = record {
    is = ap (λ n. take n (drop k xs)) (length-append ys zs) ∙ take-add (length ys) (length zs) (drop k xs)
        ∙ ap₂ (λ us vs. us ++ vs) a.is (rw (drop-drop (length ys) k xs, e) b.is);
  }

  pub stands-front : (ys zs : List A) → Stands xs k (ys ++ zs) → Stands xs k ys
  stands-front ys zs h = record {
    is = sym (take-take (length ys) (length (ys ++ zs)) (drop k xs) (omega (arith, length-append ys zs)))
        ∙ ap (take (length ys)) h.is ∙ take-append_seam ys zs;
  }

  pub stands-back : {j : ℕ} (ys zs : List A) → k + length ys ≡ j → Stands xs k (ys ++ zs) → Stands xs j zs
  unfolding stands-front
  stands-back {j} ys zs e h =
      let tail = take (length zs) (drop (length ys) (drop k xs)) in
      let both : ys ++ tail ≡ ys ++ zs =
      ap (λ us. us ++ tail) (sym (stands-front ys zs h).is) ∙ sym (take-add (length ys) (length zs) (drop k xs))
      ∙ ap (λ n. take n (drop k xs)) (sym (length-append ys zs)) ∙ h.is in
      record {
        is = rw (← e, ← drop-drop (length ys) k xs) (sym (drop-append_seam ys tail) ∙ ap (drop (length ys)) both ∙ drop-append_seam ys zs);
      }

  pub entry_at : {n : ℕ} (ys : List A) (j : ℕ) (d : A) → k + j ≡ n → j < length ys → Stands xs k ys → get_or xs n d ≡ get_or ys j d
  entry_at ys j d e b h =
      rw (← e, ← get_or-drop k xs j d) (sym (get_or-take (length ys) (drop k xs) j d b) ∙ ap (λ us. get_or us j d) h.is)
