-- Laws of the lists and tests of specs/Lists.antt.
use Prim.Native.Nat.{ℕ, suc, ◌+◌, ◌<◌, ◌≤◌}
use native.Mathlib.Omega.{arith}
use mathlib.Core.Path.{◌≡◌, refl, sym, subst, ap, ◌∙◌}
use mathlib.Core.Bool.{Bool, true, false, cond, ◌&&◌, ◌||◌, or_assoc, true≢false, false≢true}
use mathlib.Core.Logic.{◌⊎◌, inl, inr}
use mathlib.Core.List.Memᴰ
use mathlib.Core.List.{List, [], ◌∷◌, ◌++◌, map, append-nil, append_assoc, Memᴰ}
use mathlib.Core.List.{map-append, Sublistᴰ}
use lib.ListN.{length}
use Rattle.paper.specs.Lists.{any_of, all_of, those, how_many, pairs}
use Rattle.paper.proofs.Bools.{or_left, or_right, or_cases, and_left, and_right, not_so, pick}

module _ {A : Type 0} (p : A → Bool) where
  -- some member passes
  pub to-any : {a : A} {xs : List A} → Memᴰ a xs → p a ≡ true → any_of p xs ≡ true
  to-any (Memᴰ.head {x = x} {xs = xs} e) h = or_left (p x) (any_of p xs) (subst (λ z. p z ≡ true) e h)
  to-any (Memᴰ.tail {x = x} {xs = xs} t) h = or_right (p x) (any_of p xs) (to-any t h)

  pub of-any : (xs : List A) → any_of p xs ≡ true → (a : A) × Memᴰ a xs × (p a ≡ true)
  of-any [] h = absurd (false≢true h)
  of-any (x ∷ xs) h = pick (or_cases (p x) (any_of p xs) h) (λ e. (x, Memᴰ.head refl, e)) (λ e. further (of-any xs e))
    where
      further : (a : A) × Memᴰ a xs × (p a ≡ true) → (a : A) × Memᴰ a (x ∷ xs) × (p a ≡ true)
      further (a, t, q) = (a, Memᴰ.tail t, q)

  pub any_append : (xs ys : List A) → any_of p (xs ++ ys) ≡ (any_of p xs || any_of p ys)
  any_append [] ys = refl
  any_append (x ∷ xs) ys = ap (λ t. p x || t) (any_append xs ys) ∙ sym (or_assoc (p x) (any_of p xs) (any_of p ys))

  -- those that pass
  pub to-those : {a : A} {xs : List A} → Memᴰ a xs → p a ≡ true → Memᴰ a (those p xs)
  to-those {a} (Memᴰ.head {x = x} {xs = xs} e) h = go (p x) (subst (λ z. p z ≡ true) e h)
    where
      go : (t : Bool) → t ≡ true → Memᴰ a (cond t (x ∷ those p xs) (those p xs))
      go true q = Memᴰ.head e
      go false q = absurd (false≢true q)
  to-those {a} (Memᴰ.tail {x = x} {xs = xs} t) h = go (p x) (to-those t h)
    where
      go : (t : Bool) → Memᴰ a (those p xs) → Memᴰ a (cond t (x ∷ those p xs) (those p xs))
      go true q = Memᴰ.tail q
      go false q = q

  pub of-those : {a : A} (xs : List A) → Memᴰ a (those p xs) → Memᴰ a xs × (p a ≡ true)
  of-those [] t = absurd (Memᴰ.not-nil t)
  of-those {a} (x ∷ xs) t = go (p x) refl (of-those xs) t
    where
      go : (b : Bool) → p x ≡ b → (Memᴰ a (those p xs) → Memᴰ a xs × (p a ≡ true)) → Memᴰ a (cond b (x ∷ those p xs) (those p xs))
          → Memᴰ a (x ∷ xs) × (p a ≡ true)
      go true e r s = pick (Memᴰ.cases_cons s) (λ q. (Memᴰ.head q, rw q e)) (λ q. (Memᴰ.tail (r q).0, (r q).1))
      go false e r s = (Memᴰ.tail (r s).0, (r s).1)

  -- none passes
  pub to_none : (xs : List A) → ((a : A) → Memᴰ a xs → p a ≡ false) → those p xs ≡ []
  to_none [] h = refl
  to_none (x ∷ xs) h = go (p x) refl (to_none xs (λ a t. h a (Memᴰ.tail t)))
    where
      go : (b : Bool) → p x ≡ b → those p xs ≡ [] → cond b (x ∷ those p xs) (those p xs) ≡ []
      go true e r = absurd (true≢false (sym e ∙ h x (Memᴰ.head refl)))
      go false e r = r

  pub of_none : (xs : List A) → those p xs ≡ [] → (a : A) → Memᴰ a xs → p a ≡ false
  of_none xs e a t = not_so (p a) λ h. Memᴰ.not-nil (subst (Memᴰ a) e (to-those t h))

  -- all pass
  pub those-all : (xs : List A) → ((a : A) → Memᴰ a xs → p a ≡ true) → those p xs ≡ xs
  those-all [] h = refl
  those-all (x ∷ xs) h = rw (h x (Memᴰ.head refl), those-all xs (λ a t. h a (Memᴰ.tail t)))

  pub of-all : {a : A} {xs : List A} → all_of p xs ≡ true → Memᴰ a xs → p a ≡ true
  of-all h (Memᴰ.head {x = x} e) = rw e (and_left (p x) _ h)
  of-all h (Memᴰ.tail {x = x} t) = of-all (and_right (p x) _ h) t

  pub those-append : (xs ys : List A) → those p (xs ++ ys) ≡ those p xs ++ those p ys
  those-append [] ys = refl
  those-append (x ∷ xs) ys = go (p x) (those-append xs ys)
    where
      go : (t : Bool) → those p (xs ++ ys) ≡ those p xs ++ those p ys
          → cond t (x ∷ those p (xs ++ ys)) (those p (xs ++ ys)) ≡ cond t (x ∷ those p xs) (those p xs) ++ those p ys
      go true e = ap (λ zs. x ∷ zs) e
      go false e = e

  pub sub-those : (xs : List A) → Sublistᴰ (those p xs) xs
  sub-those [] = Sublistᴰ.slnil
  sub-those (x ∷ xs) = go (p x) (sub-those xs)
    where
      go : (t : Bool) → Sublistᴰ (those p xs) xs → Sublistᴰ (cond t (x ∷ those p xs) (those p xs)) (x ∷ xs)
      go true s = Sublistᴰ.cons-cons refl s
      go false s = Sublistᴰ.cons s

  pub those-le : (xs : List A) → length (those p xs) ≤ length xs
  those-le [] = omega arith
  those-le (x ∷ xs) = go (p x) (those-le xs)
    where
      go : (t : Bool) → length (those p xs) ≤ length xs → length (cond t (x ∷ those p xs) (those p xs)) ≤ suc (length xs)
      go true h = omega arith
      go false h = omega arith

  -- a member fails
  pub those-lt : (xs : List A) (a : A) → Memᴰ a xs → p a ≡ false → length (those p xs) < length xs
  those-lt [] a t h = absurd (Memᴰ.not-nil t)
  those-lt (x ∷ xs) a t h = go (p x) refl (those-le xs) (those-lt xs a) (Memᴰ.cases_cons t)
    where
      go : (b : Bool) → p x ≡ b → length (those p xs) ≤ length xs → (Memᴰ a xs → p a ≡ false → length (those p xs) < length xs) → (a ≡ x) ⊎ Memᴰ a xs
          → length (cond b (x ∷ those p xs) (those p xs)) < suc (length xs)
      go true e le r (inl q) = absurd (true≢false (sym e ∙ ap p (sym q) ∙ h))
      go true e le r (inr q) = let z = r q h in omega arith
      go false e le r c = omega arith

  -- how many pass
  pub how_many-append : (xs ys : List A) → how_many p (xs ++ ys) ≡ how_many p xs + how_many p ys
  how_many-append [] ys = omega arith
  how_many-append (x ∷ xs) ys = go (p x) (how_many-append xs ys)
    where
      go : (t : Bool) → how_many p (xs ++ ys) ≡ how_many p xs + how_many p ys
          → cond t (suc (how_many p (xs ++ ys))) (how_many p (xs ++ ys)) ≡ cond t (suc (how_many p xs)) (how_many p xs) + how_many p ys
      go true e = omega arith
      go false e = e

  pub how_many-none : (xs : List A) → how_many p xs ≡ 0 → (a : A) → Memᴰ a xs → p a ≡ true → ⊥
  how_many-none [] e a t h = Memᴰ.not-nil t
  how_many-none (x ∷ xs) e a t h = go (p x) refl (how_many-none xs) e (Memᴰ.cases_cons t)
    where
      go : (b : Bool) → p x ≡ b → (how_many p xs ≡ 0 → (a : A) → Memᴰ a xs → p a ≡ true → ⊥) → cond b (suc (how_many p xs)) (how_many p xs) ≡ 0
          → (a ≡ x) ⊎ Memᴰ a xs → ⊥
      go true q r d c = omega arith
      go false q r d (inl s) = true≢false (sym h ∙ ap p s ∙ q)
      go false q r d (inr s) = r d a s h

  pub how_many-some : (xs : List A) {n : ℕ} → how_many p xs ≡ suc n → (a : A) × Memᴰ a xs × (p a ≡ true)
  how_many-some [] e = absurd (omega arith)
  how_many-some (x ∷ xs) {n} e = go (p x) refl (how_many-some xs) e
    where
      go : (b : Bool) → p x ≡ b → (how_many p xs ≡ suc n → (a : A) × Memᴰ a xs × (p a ≡ true))
          → cond b (suc (how_many p xs)) (how_many p xs) ≡ suc n → (a : A) × Memᴰ a (x ∷ xs) × (p a ≡ true)
      go true q r d = (x, Memᴰ.head refl, q)
      go false q r d = let (a, t, h) = r d in (a, Memᴰ.tail t, h)

  -- where one passes, there is no other
  pub how_many-one : (xs : List A) → how_many p xs ≡ 1 → (a b : A) → Memᴰ a xs → p a ≡ true → Memᴰ b xs → p b ≡ true → a ≡ b
  how_many-one [] e a b t h u k = absurd (Memᴰ.not-nil t)
  how_many-one (x ∷ xs) e a b t h u k = go (p x) refl (how_many-one xs) e (Memᴰ.cases_cons t) (Memᴰ.cases_cons u)
    where
      go : (c : Bool) → p x ≡ c → (how_many p xs ≡ 1 → (a b : A) → Memᴰ a xs → p a ≡ true → Memᴰ b xs → p b ≡ true → a ≡ b)
          → cond c (suc (how_many p xs)) (how_many p xs) ≡ 1 → (a ≡ x) ⊎ Memᴰ a xs → (b ≡ x) ⊎ Memᴰ b xs → a ≡ b
      go true q r d (inl s) (inl w) = s ∙ sym w
      go true q r d (inl s) (inr w) = absurd (how_many-none xs (omega arith) b w k)
      go true q r d (inr s) c = absurd (how_many-none xs (omega arith) a s h)
      go false q r d (inl s) c = absurd (true≢false (sym h ∙ ap p s ∙ q))
      go false q r d (inr s) (inl w) = absurd (true≢false (sym k ∙ ap p w ∙ q))
      go false q r d (inr s) (inr w) = r d a b s h w k

-- two tests that answer alike on the members
module _ {A : Type 0} (p q : A → Bool) where
  pub any_same : (xs : List A) → ((a : A) → Memᴰ a xs → p a ≡ q a) → any_of p xs ≡ any_of q xs
  any_same [] h = refl
  any_same (x ∷ xs) h = let e = h x (Memᴰ.head refl) in let r = any_same xs (λ a t. h a (Memᴰ.tail t)) in cc

  pub how_many-same : (xs : List A) → ((a : A) → Memᴰ a xs → p a ≡ q a) → how_many p xs ≡ how_many q xs
  how_many-same [] h = refl
  how_many-same (x ∷ xs) h = let e = h x (Memᴰ.head refl) in let r = how_many-same xs (λ a t. h a (Memᴰ.tail t)) in cc

pub of_map : {A B : Type 0} (f : A → B) {b : B} (xs : List A) → Memᴰ b (map f xs) → (a : A) × Memᴰ a xs × (b ≡ f a)
of_map f xs t = let (a, s, e) = Memᴰ.of_map f xs t in (a, s, sym e)

module _ {A : Type 0} where
  pub to-pairs : {b c : List A} {xs ys : List (List A)} → Memᴰ b xs → Memᴰ c ys → Memᴰ (b ++ c) (pairs xs ys)
  to-pairs {ys = ys} (Memᴰ.head {x = x} {xs = xs} e) t = Memᴰ.append_left {s = map (λ y. x ++ y) ys} (pairs xs ys) (rw e (Memᴰ.map (λ y. x ++ y) t))
  to-pairs {ys = ys} (Memᴰ.tail {x = x} s) t = Memᴰ.append_right (map (λ y. x ++ y) ys) (to-pairs s t)

  pub of-pairs : {b : List A} (xs ys : List (List A)) → Memᴰ b (pairs xs ys) → (c d : List A) × Memᴰ c xs × Memᴰ d ys × (b ≡ c ++ d)
  of-pairs [] ys t = absurd (Memᴰ.not-nil t)
  of-pairs {b} (x ∷ xs) ys t = go (Memᴰ.append_cases (map (λ y. x ++ y) ys) t) (of-pairs xs ys)
    where
      go : Memᴰ b (map (λ y. x ++ y) ys) ⊎ Memᴰ b (pairs xs ys)
          → (Memᴰ b (pairs xs ys) → (c d : List A) × Memᴰ c xs × Memᴰ d ys × (b ≡ c ++ d))
          → (c d : List A) × Memᴰ c (x ∷ xs) × Memᴰ d ys × (b ≡ c ++ d)
      go (inl s) r = let (d, u, e) = of_map (λ y. x ++ y) ys s in (x, d, Memᴰ.head refl, u, e)
      go (inr s) r = let (c, d, u, w, e) = r s in (c, d, Memᴰ.tail u, w, e)

  -- joining pairwise is a monoid, with the one empty list as its unit
  pub pairs-none : (xs : List (List A)) → pairs xs [] ≡ []
  pairs-none [] = refl
  pairs-none (x ∷ xs) = pairs-none xs

  map-front : (x y : List A) (zs : List (List A)) → map (λ z. (x ++ y) ++ z) zs ≡ map (λ z. x ++ z) (map (λ z. y ++ z) zs)
  map-front x y [] = refl
  map-front x y (z ∷ zs) = let e = append_assoc x y z in let r = map-front x y zs in cc

  pub pairs-append : (xs ys zs : List (List A)) → pairs (xs ++ ys) zs ≡ pairs xs zs ++ pairs ys zs
  pairs-append [] ys zs = refl
  pairs-append (x ∷ xs) ys zs =
      ap (λ r. map (λ z. x ++ z) zs ++ r) (pairs-append xs ys zs)
      ∙ sym (append_assoc (map (λ z. x ++ z) zs) (pairs xs zs) (pairs ys zs))

  pairs-front : (x : List A) (ys zs : List (List A)) → pairs (map (λ y. x ++ y) ys) zs ≡ map (λ z. x ++ z) (pairs ys zs)
  pairs-front x [] zs = refl
  pairs-front x (y ∷ ys) zs =
      let e = map-front x y zs in
      let r = pairs-front x ys zs in
      let s = map-append (λ z. x ++ z) (map (λ z. y ++ z) zs) (pairs ys zs) in cc

  pub pairs-assoc : (xs ys zs : List (List A)) → pairs (pairs xs ys) zs ≡ pairs xs (pairs ys zs)
  pairs-assoc [] ys zs = refl
  pairs-assoc (x ∷ xs) ys zs =
      pairs-append (map (λ y. x ++ y) ys) (pairs xs ys) zs
      ∙ ap (λ r. r ++ pairs (pairs xs ys) zs) (pairs-front x ys zs)
      ∙ ap (λ r. map (λ z. x ++ z) (pairs ys zs) ++ r) (pairs-assoc xs ys zs)

  map-nothing : (xs : List (List A)) → map (λ x. [] ++ x) xs ≡ xs
  map-nothing [] = refl
  map-nothing (x ∷ xs) = ap (λ r. x ∷ r) (map-nothing xs)

  pub pairs-unit : (xs : List (List A)) → pairs ([] ∷ []) xs ≡ xs
  pairs-unit xs = append-nil (map (λ x. [] ++ x) xs) ∙ map-nothing xs

module _ {A : Type 0} where
  -- those of those; those that two tests agree on
  pub those-those : (p q : A → Bool) (xs : List A) → those p (those q xs) ≡ those (λ x. q x && p x) xs
  those-those p q [] = refl
  those-those p q (x ∷ xs) = go (q x) (those-those p q xs)
    where
      go : (s : Bool) → those p (those q xs) ≡ those (λ x. q x && p x) xs
          → those p (cond s (x ∷ those q xs) (those q xs)) ≡ cond (s && p x) (x ∷ those (λ x. q x && p x) xs) (those (λ x. q x && p x) xs)
      go true r = ap (λ l. cond (p x) (x ∷ l) l) r
      go false r = r

  pub those-same : (p q : A → Bool) (xs : List A) → ((a : A) → Memᴰ a xs → p a ≡ q a) → those p xs ≡ those q xs
  those-same p q [] e = refl
  those-same p q (x ∷ xs) e = rw (e x (Memᴰ.head refl)) (ap (λ l. cond (q x) (x ∷ l) l) (those-same p q xs (λ a t. e a (Memᴰ.tail t))))
