-- Bytes that are set for the labels of a list: one after another, label by label, and on a front that has a byte for each.
use Prim.Native.Nat.{ℕ, zero, suc, ◌+◌, ◌<◌}
use native.Mathlib.Omega.{arith}
use mathlib.Core.Path.{◌≡◌, refl, sym, ap, ap₂, ◌∙◌}
use mathlib.Core.Bool.{Bool, true, false, cond, ◌||◌}
use mathlib.Core.List.{List, [], ◌∷◌, ◌++◌, map}
use lib.Dec.{eqb}
use lib.ListN.{length, get_or, set, replicate, length-set, length-map, length-replicate, get_or-replicate}
use lib.Seq.{get_or-set_same, get_or-set_other, set-append_left, ext_get_or}
use borrow.Author.Tests.{eqb-true, eqb-false}
use Rattle.paper.specs.declared.Label.{Label}
use Rattle.paper.specs.Formula.{ℓ, has}
use Rattle.written.specs.Written.{labels_on}
use Rattle.transitions.specs.Inside.Kept.{marked_by, bytes_of}

pub marked_append : (xs ys : List Label) (out : List ℕ) → marked_by (xs ++ ys) out ≡ marked_by ys (marked_by xs out)
unfolding marked_by
marked_append [] ys out = refl
marked_append (x ∷ xs) ys out = marked_append xs ys (set out x.0 1)

length_marked : (ls : List Label) (out : List ℕ) → length (marked_by ls out) ≡ length out
unfolding marked_by
length_marked [] out = refl
length_marked (l ∷ ls) out = length_marked ls (set out l.0 1) ∙ length-set out l.0 1

-- the byte of label i is set if i is one of them
marked-at : (ls : List Label) (out : List ℕ) (i : ℕ) → i < length out → get_or (marked_by ls out) i 0 ≡ cond (has ls (ℓ i)) 1 (get_or out i 0)
unfolding marked_by
marked-at [] out i h = refl
marked-at (l ∷ ls) out i h =
    marked-at ls (set out l.0 1) i (let e = length-set out l.0 1 in omega arith) ∙ one (eqb i l.0) refl (has ls (ℓ i))
  where
    one : (t : Bool) → eqb i l.0 ≡ t → (u : Bool) → cond u 1 (get_or (set out l.0 1) i 0) ≡ cond (t || u) 1 (get_or out i 0)
    one true e true = refl
    one true e false = let z = eqb-true i l.0 e in rw (← z) (get_or-set_same out i 1 0 h)
    one false e u = ap (cond u 1) (get_or-set_other out l.0 i 1 0 (eqb-false i l.0 e))

-- the byte of label i among the bytes of all below n
byte_at : (f : Label → ℕ) (n i l : ℕ) → l < n → get_or (map f (labels_on i n)) l 0 ≡ f (ℓ (i + l))
byte_at f zero i l h = absurd (omega arith)
byte_at f (suc n) i zero h = ap (λ j. f (ℓ j)) (omega arith)
byte_at f (suc n) i (suc l) h = byte_at f n (suc i) l (omega arith) ∙ ap (λ j. f (ℓ j)) (omega arith)

length-labels : (i n : ℕ) → length (labels_on i n) ≡ n
length-labels i zero = refl
length-labels i (suc n) = ap suc (length-labels (suc i) n)

module _ (p : Label → Bool) (n : ℕ) where
  pub length-bytes : length (bytes_of p n) ≡ n
  length-bytes = length-map (labels_on 0 n) _ ∙ length-labels 0 n

  pub bytes-at : (l : ℕ) → l < n → get_or (bytes_of p n) l 0 ≡ cond (p (ℓ l)) 1 0
  bytes-at l h = byte_at (λ l. cond (p l) 1 0) n 0 l h ∙ ap (λ j. cond (p (ℓ j)) 1 0) (omega arith)

pub bytes_same : {p q : Label → Bool} → ((l : Label) → p l ≡ q l) → (n : ℕ) → bytes_of p n ≡ bytes_of q n
bytes_same {p} {q} e n = go 0 n
  where
    go : (i n : ℕ) → map {B = ℕ} (λ l. cond (p l) 1 0) (labels_on i n) ≡ map (λ l. cond (q l) 1 0) (labels_on i n)
    go i zero = refl
    go i (suc n) = ap₂ ◌∷◌ (ap (λ t. cond t 1 0) (e (ℓ i))) (go (suc i) n)

-- n bytes, marked
pub marked-bytes : (ls : List Label) (n : ℕ) → marked_by ls (replicate n 0) ≡ bytes_of (has ls) n
marked-bytes ls n =
    ext_get_or 0 (marked_by ls (replicate n 0)) (bytes_of (has ls) n) (size ∙ sym (length-bytes (has ls) n))
    λ i h. let below : i < n = omega (arith, size) in
    marked-at ls (replicate n 0) i (omega (arith, length-replicate {A = ℕ} n 0))
    ∙ ap (cond (has ls (ℓ i)) 1) (get_or-replicate n i 0 0 below) ∙ sym (bytes-at (has ls) n i below)
  where
    size : length (marked_by ls (replicate n 0)) ≡ n
    size = length_marked ls (replicate n 0) ∙ length-replicate n 0

-- what follows a front that has a byte for each label stays
infixr 50 ◌and◌
pub data AllLabels (P : Label → Type 0) : List Label → Type 0 where
  no_label : AllLabels P []
  ◌and◌ : {l : Label} {ls : List Label} → P l → AllLabels P ls → AllLabels P (l ∷ ls)

pub marked-front : (ls : List Label) (n : ℕ) (xs ys : List ℕ) → length xs ≡ n → AllLabels (λ l. l.0 < n) ls → marked_by ls (xs ++ ys) ≡ marked_by ls xs ++ ys
unfolding marked_by
marked-front [] n xs ys size no_label = refl
marked-front (l ∷ ls) n xs ys size (h and a) =
    ap (marked_by ls) (set-append_left xs ys l.0 1 (omega (arith, h)))
    ∙ marked-front ls n (set xs l.0 1) ys (length-set xs l.0 1 ∙ size) a
