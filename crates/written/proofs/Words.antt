-- Words by the tests and by the bounds: words of which none falls ascend, words of which none is beyond a limit are below it,
-- both also the other way round.
use Prim.Native.Nat.{ℕ, zero, suc, ◌-◌, ◌<◌, ◌≤◌}
use native.Mathlib.Omega.{arith}
use mathlib.Core.Path.{◌≡◌, refl, sym, ap₂, subst, ◌∙◌}
use mathlib.Core.Bool.{false}
use mathlib.Core.List.Memᴰ
use mathlib.Core.List.{List, [], ◌∷◌, ◌++◌, map, Memᴰ}
use lib.ListN.{length, get_or, take, drop}
use lib.Seq.{length-take-le, get_or-take}
use lib.Dec.{leb}
use borrow.Author.Tests.{leb-false, lt-leb, lt-ltb}
use Rattle.paper.specs.Formula.{ℓ, Rising}
use Rattle.paper.proofs.Bools.{pick}
use Rattle.paper.proofs.Lists.{of_map}
use Rattle.entries.specs.First.{first}
use Rattle.entries.specs.Entries.{falls, beyond}
use Rattle.written.specs.Written.{Ascend}
use Rattle.entries.proofs.First.{first-none, first-all}
use Rattle.written.proofs.Stands.{Stands, stands-room}

-- mapped forth and back
pub map_back : {A B : Type 0} (f : A → B) (g : B → A) → ((a : A) → g (f a) ≡ a) → (xs : List A) → map g (map f xs) ≡ xs
map_back f g h [] = refl
map_back f g h (x ∷ xs) = ap₂ (λ y ys. y ∷ ys) (h x) (map_back f g h xs)

-- a claim of each member
abbrev pub Each : {A : Type 0} → (A → Type 0) → List A → Type 0
Each {A} P xs = (a : A) → Memᴰ a xs → P a

module _ {A : Type 0} (P : A → Type 0) where
  pub each_none : Each P []
  each_none a t = absurd (Memᴰ.not-nil t)

  pub each-cons : {x : A} {xs : List A} → P x → Each P xs → Each P (x ∷ xs)
  each-cons p h a t = pick (Memᴰ.cases_cons t) (λ e. subst P (sym e) p) (h a)

  pub each_append : (xs : List A) {ys : List A} → Each P xs → Each P ys → Each P (xs ++ ys)
  each_append xs h k a t = pick (Memᴰ.append_cases xs t) (h a) (k a)

pub each_map : {A B : Type 0} (f : A → B) (P : B → Type 0) (xs : List A) → Each (λ a. P (f a)) xs → Each P (map f xs)
each_map f P xs h b t = let (a, s, e) = of_map f xs t in subst P (sym e) (h a s)

-- a claim of each word, by its place
pub word-mem : (ws : List ℕ) (k : ℕ) → k < length ws → Memᴰ (get_or ws k 0) ws
word-mem [] k h = absurd (omega arith)
word-mem (w ∷ ws) zero h = Memᴰ.head refl
word-mem (w ∷ ws) (suc k) h = Memᴰ.tail (word-mem ws k (omega arith))

each_word : (P : ℕ → Type 0) (ws : List ℕ) → ((k : ℕ) → k < length ws → P (get_or ws k 0)) → Each P ws
each_word P [] h = each_none P
each_word P (w ∷ ws) h = each-cons P (h 0 (omega arith)) (each_word P ws (λ k l. h (suc k) (omega arith)))

-- word k + 1 is above word k
abbrev Rises : List ℕ → ℕ → Type 0
Rises ws k = get_or ws k 0 < get_or ws (suc k) 0

to-rising : (p : ℕ) (ws : List ℕ) → (0 < length ws → p ≤ get_or ws 0 0) → ((k : ℕ) → suc k < length ws → Rises ws k) → Rising p (map ℓ ws)
to-rising p [] low step = tt
to-rising p (w ∷ ws) low step = (low (omega arith), to-rising (suc w) ws (λ h. step 0 (omega arith)) (λ k h. step (suc k) (omega arith)))

pub of_rising : (p : ℕ) (ws : List ℕ) → Rising p (map ℓ ws) → (k : ℕ) → suc k < length ws → Rises ws k
of_rising p [] r k h = absurd (omega arith)
of_rising p (v ∷ []) r k h = absurd (omega arith)
of_rising p (v ∷ w ∷ ws) r zero h = r.1.0
of_rising p (v ∷ w ∷ ws) r (suc k) h = of_rising (suc v) (w ∷ ws) r.1 k (omega arith)

falls-next : (ws : List ℕ) (k : ℕ) → falls ws (suc k) ≡ leb (get_or ws (suc k) 0) (get_or ws k 0)
falls-next ws k = let z : suc k - 1 ≡ k = omega arith in simp (lt-ltb 0 (suc k) (omega arith), z)

-- None of the first m words falls exactly if they ascend; none is beyond a limit exactly if all are below it.
module _ (ws : List ℕ) (m : ℕ) (h : m ≤ length ws) where
  taken-same : (k : ℕ) → k < length (take m ws) → get_or (take m ws) k 0 ≡ get_or ws k 0
  taken-same k l = let n = length-take-le m ws h in get_or-take m ws k 0 (omega arith)

  pub to-ascend : first (falls ws) m ≡ m → Ascend (take m ws)
  to-ascend e = to-rising 0 (take m ws) (λ z. omega arith) step
    where
      step : (k : ℕ) → suc k < length (take m ws) → Rises (take m ws) k
      step k b =
          let n = length-take-le m ws h in
          let a = leb-false (get_or ws (suc k) 0) (get_or ws k 0) (sym (falls-next ws k) ∙ first-all (falls ws) m e (suc k) (omega arith)) in
          let c = taken-same k (omega arith) in
          let d = taken-same (suc k) b in
          omega arith

  pub of-ascend : Ascend (take m ws) → first (falls ws) m ≡ m
  of-ascend r = first-none (falls ws) m below
    where
      below : (k : ℕ) → k < m → falls ws k ≡ false
      below zero l = refl
      below (suc k) l =
          let n = length-take-le m ws h in
          let a = of_rising 0 (take m ws) r k (omega arith) in
          let b = taken-same k (omega arith) in
          let c = taken-same (suc k) (omega arith) in
          falls-next ws k ∙ lt-leb (get_or ws (suc k) 0) (get_or ws k 0) (omega arith)

  pub to_below : (limit : ℕ) → first (beyond ws limit) m ≡ m → Each (λ w. w < limit) (take m ws)
  to_below limit e =
      each_word (λ w. w < limit) (take m ws)
      (λ k l. let n = length-take-le m ws h in rw (taken-same k l) (leb-false limit (get_or ws k 0) (first-all (beyond ws limit) m e k (omega arith))))

  pub of-below : (limit : ℕ) → Each (λ w. w < limit) (take m ws) → first (beyond ws limit) m ≡ m
  of-below limit b =
      first-none (beyond ws limit) m
      (λ k l.
      let n = length-take-le m ws h in
      let j : k < length (take m ws) = omega arith in
      lt-leb limit (get_or ws k 0) (subst (λ w. w < limit) (taken-same k j) (b _ (word-mem (take m ws) k j))))

-- entries that ascend or are below a limit, wherever they stand
module _ {ws ns : List ℕ} {k : ℕ} (h : Stands ws k ns) where
  pub none-falls : Ascend ns → first (falls (drop k ws)) (length ns) ≡ length ns
  none-falls a = of-ascend (drop k ws) (length ns) (stands-room ns h) (rw h.is a)

  pub none-beyond : (limit : ℕ) → Each (λ n. n < limit) ns → first (beyond (drop k ws) limit) (length ns) ≡ length ns
  none-beyond limit b = of-below (drop k ws) (length ns) (stands-room ns h) limit (rw h.is b)
