-- The distinct keys: exactly those given, each once, strictly ascending (specs/Statements.antt, 5).
use Prim.Native.Nat.{◌<◌}
use native.Mathlib.Omega.{arith}
use mathlib.Core.Path.{◌≡◌, refl, sym, subst, ◌∙◌}
use mathlib.Core.Bool.{Bool, true, false, cond, ◌&&◌, ◌||◌, true≢false, false≢true}
use mathlib.Core.Logic.{◌⊎◌, inl, inr}
use mathlib.Core.List.Memᴰ
use mathlib.Core.List.{List, [], ◌∷◌, map, Memᴰ}
use lib.Dec.{ltb}
use borrow.Author.Tests.{eqb-true, eq-eqb, ltb-true, ltb-false, lt-ltb}
use Rattle.paper.specs.Formula.{Label, same, Formula}
use Rattle.paper.specs.Branch.{branches}
use Rattle.paper.specs.Transition.{key, same_key, is_lower, with_key, distinct, Ascending, KeysAreListed}
use Rattle.paper.proofs.Bools.{or_left, or_right, or_cases, both, and_left, and_right}
use Rattle.paper.proofs.Lists.{of_map}
use Rattle.paper.proofs.Labels.{same_refl, same-eq}

pub same_key-refl : (k : List Label) → same_key k k ≡ true
same_key-refl [] = refl
same_key-refl (x ∷ k) = both (same x x) (same_key k k) (same_refl x) (same_key-refl k)

pub same_key-eq : (j k : List Label) → same_key j k ≡ true → j ≡ k
same_key-eq [] [] h = refl
same_key-eq [] (y ∷ k) h = absurd (false≢true h)
same_key-eq (x ∷ j) [] h = absurd (false≢true h)
same_key-eq (x ∷ j) (y ∷ k) h =
    let p = same-eq x y (and_left (same x y) (same_key j k) h) in
    let q = same_key-eq j k (and_right (same x y) (same_key j k) h) in cc

-- every key is listed, and nothing else
to-with_key : (k : List Label) (ks : List (List Label)) → Memᴰ k (with_key k ks)
to-with_key k [] = Memᴰ.head refl
to-with_key k (j ∷ js) = go (same_key k j) (same_key-eq k j) (is_lower k j) (to-with_key k js)
  where
    go : (e : Bool) → (e ≡ true → k ≡ j) → (t : Bool) → Memᴰ k (with_key k js) → Memᴰ k (cond e (j ∷ js) (cond t (k ∷ j ∷ js) (j ∷ with_key k js)))
    go true q t r = Memᴰ.head (q refl)
    go false q true r = Memᴰ.head refl
    go false q false r = Memᴰ.tail r

with_key-keeps : (k : List Label) {i : List Label} (ks : List (List Label)) → Memᴰ i ks → Memᴰ i (with_key k ks)
with_key-keeps k [] t = absurd (Memᴰ.not-nil t)
with_key-keeps k {i} (j ∷ js) t = go (same_key k j) (is_lower k j) (with_key-keeps k js) (Memᴰ.cases_cons t)
  where
    go : (e u : Bool) → (Memᴰ i js → Memᴰ i (with_key k js)) → (i ≡ j) ⊎ Memᴰ i js
        → Memᴰ i (cond e (j ∷ js) (cond u (k ∷ j ∷ js) (j ∷ with_key k js)))
    go true u r c = t
    go false true r c = Memᴰ.tail t
    go false false r (inl e) = Memᴰ.head e
    go false false r (inr s) = Memᴰ.tail (r s)

pub to_distinct : {k : List Label} (ks : List (List Label)) → Memᴰ k ks → Memᴰ k (distinct ks)
to_distinct [] t = t
to_distinct {k} (j ∷ js) t = go (Memᴰ.cases_cons t) (to_distinct js)
  where
    go : (k ≡ j) ⊎ Memᴰ k js → (Memᴰ k js → Memᴰ k (distinct js)) → Memᴰ k (with_key j (distinct js))
    go (inl e) r = rw e (to-with_key j (distinct js))
    go (inr s) r = with_key-keeps j (distinct js) (r s)

pub of-with_key : {i : List Label} (k : List Label) (ks : List (List Label)) → Memᴰ i (with_key k ks) → (i ≡ k) ⊎ Memᴰ i ks
of-with_key k [] t = inl (Memᴰ.eq_of_singleton t)
of-with_key {i} k (j ∷ js) t = go (same_key k j) (is_lower k j) t (of-with_key k js)
  where
    go : (e u : Bool) → Memᴰ i (cond e (j ∷ js) (cond u (k ∷ j ∷ js) (j ∷ with_key k js)))
        → (Memᴰ i (with_key k js) → (i ≡ k) ⊎ Memᴰ i js) → (i ≡ k) ⊎ Memᴰ i (j ∷ js)
    go true u s r = inr s
    go false true s r = Memᴰ.cases_cons s
    go false false s r = deeper (Memᴰ.cases_cons s)
      where
        shift : (i ≡ k) ⊎ Memᴰ i js → (i ≡ k) ⊎ Memᴰ i (j ∷ js)
        shift (inl e) = inl e
        shift (inr q) = inr (Memᴰ.tail q)

        deeper : (i ≡ j) ⊎ Memᴰ i (with_key k js) → (i ≡ k) ⊎ Memᴰ i (j ∷ js)
        deeper (inl e) = inr (Memᴰ.head e)
        deeper (inr q) = shift (r q)

pub of-distinct : {i : List Label} (ks : List (List Label)) → Memᴰ i (distinct ks) → Memᴰ i ks
of-distinct [] t = t
of-distinct {i} (k ∷ ks) t = go (of-with_key k (distinct ks) t) (of-distinct ks)
  where
    go : (i ≡ k) ⊎ Memᴰ i (distinct ks) → (Memᴰ i (distinct ks) → Memᴰ i ks) → Memᴰ i (k ∷ ks)
    go (inl e) r = Memᴰ.head e
    go (inr s) r = Memᴰ.tail (r s)

-- the order of keys
pub is_lower-irreflexive : (k : List Label) → is_lower k k ≡ true → ⊥
is_lower-irreflexive [] h = false≢true h
is_lower-irreflexive (x ∷ k) h = go (or_cases (ltb x.0 x.0) _ h) (is_lower-irreflexive k)
  where
    go : (ltb x.0 x.0 ≡ true) ⊎ ((same x x && is_lower k k) ≡ true) → (is_lower k k ≡ true → ⊥) → ⊥
    go (inl e) r = let z = ltb-true x.0 x.0 e in omega arith
    go (inr e) r = r (and_right (same x x) _ e)

pub is_lower-transitive : (i j k : List Label) → is_lower i j ≡ true → is_lower j k ≡ true → is_lower i k ≡ true
is_lower-transitive [] [] k a b = absurd (false≢true a)
is_lower-transitive [] (y ∷ j) [] a b = absurd (false≢true b)
is_lower-transitive [] (y ∷ j) (z ∷ k) a b = refl
is_lower-transitive (x ∷ i) [] k a b = absurd (false≢true a)
is_lower-transitive (x ∷ i) (y ∷ j) [] a b = absurd (false≢true b)
is_lower-transitive (x ∷ i) (y ∷ j) (z ∷ k) a b = go (or_cases (ltb x.0 y.0) _ a) (or_cases (ltb y.0 z.0) _ b) (is_lower-transitive i j k)
  where
    less : x.0 < z.0 → (ltb x.0 z.0 || same x z && is_lower i k) ≡ true
    less h = or_left (ltb x.0 z.0) _ (lt-ltb x.0 z.0 h)

    num : (p q : Label) → (t : Bool) → (same p q && t) ≡ true → p.0 ≡ q.0
    num p q t h = eqb-true p.0 q.0 (and_left (same p q) t h)

    go : (ltb x.0 y.0 ≡ true) ⊎ ((same x y && is_lower i j) ≡ true) → (ltb y.0 z.0 ≡ true) ⊎ ((same y z && is_lower j k) ≡ true)
        → (is_lower i j ≡ true → is_lower j k ≡ true → is_lower i k ≡ true) → (ltb x.0 z.0 || same x z && is_lower i k) ≡ true
    go (inl p) (inl q) r = less (let s = ltb-true x.0 y.0 p in let t = ltb-true y.0 z.0 q in omega arith)
    go (inl p) (inr q) r = less (let s = ltb-true x.0 y.0 p in let t = num y z _ q in omega arith)
    go (inr p) (inl q) r = less (let s = num x y _ p in let t = ltb-true y.0 z.0 q in omega arith)
    go (inr p) (inr q) r =
        let same_first = eq-eqb x.0 z.0 (num x y _ p ∙ num y z _ q) in
        or_right (ltb x.0 z.0) _ (both (same x z) _ same_first (r (and_right (same x y) _ p) (and_right (same y z) _ q)))

is_lower-total : (j k : List Label) → (is_lower j k ≡ true) ⊎ ((j ≡ k) ⊎ (is_lower k j ≡ true))
is_lower-total [] [] = inr (inl refl)
is_lower-total [] (y ∷ k) = inl refl
is_lower-total (x ∷ j) [] = inr (inr refl)
is_lower-total (x ∷ j) (y ∷ k) = go (ltb x.0 y.0) refl (ltb y.0 x.0) refl (is_lower-total j k)
  where
    go : (s : Bool) → ltb x.0 y.0 ≡ s → (t : Bool) → ltb y.0 x.0 ≡ t → (is_lower j k ≡ true) ⊎ ((j ≡ k) ⊎ (is_lower k j ≡ true))
        → ((s || same x y && is_lower j k) ≡ true) ⊎ ((x ∷ j ≡ y ∷ k) ⊎ ((t || same y x && is_lower k j) ≡ true))
    go true p t q r = inl refl
    go false p true q r = inr (inr refl)
    go false p false q r = tails r
      where
        number : x.0 ≡ y.0
        number = let a = ltb-false x.0 y.0 p in let b = ltb-false y.0 x.0 q in omega arith

        tails : (is_lower j k ≡ true) ⊎ ((j ≡ k) ⊎ (is_lower k j ≡ true))
            → ((same x y && is_lower j k) ≡ true) ⊎ ((x ∷ j ≡ y ∷ k) ⊎ ((same y x && is_lower k j) ≡ true))
        tails (inl h) = inl (both (same x y) _ (eq-eqb x.0 y.0 number) h)
        tails (inr (inl h)) = inr (inl (let e = same-eq x y (eq-eqb x.0 y.0 number) in cc))
        tails (inr (inr h)) = inr (inr (both (same y x) _ (eq-eqb y.0 x.0 (sym number)) h))

with_key-ascends : (k : List Label) (ks : List (List Label)) → Ascending ks → Ascending (with_key k ks)
with_key-ascends k [] c = (λ j t. absurd (Memᴰ.not-nil t), tt)
with_key-ascends k (j ∷ js) c = go (same_key k j) refl (is_lower k j) refl (with_key-ascends k js c.1)
  where
    go : (e : Bool) → same_key k j ≡ e → (u : Bool) → is_lower k j ≡ u → Ascending (with_key k js)
        → Ascending (cond e (j ∷ js) (cond u (k ∷ j ∷ js) (j ∷ with_key k js)))
    go true p u q r = c
    go false p true q r = (λ i t. first i (Memᴰ.cases_cons t), c)
      where
        first : (i : List Label) → (i ≡ j) ⊎ Memᴰ i js → is_lower k i ≡ true
        first i (inl e) = rw e q
        first i (inr s) = is_lower-transitive k j i q (c.0 i s)
    go false p false q r = (λ i t. above i (of-with_key k js t), r)
      where
        under : (is_lower j k ≡ true) ⊎ ((j ≡ k) ⊎ (is_lower k j ≡ true)) → is_lower j k ≡ true
        under (inl h) = h
        under (inr (inl h)) = absurd (true≢false (sym (subst (λ z. same_key k z ≡ true) (sym h) (same_key-refl k)) ∙ p))
        under (inr (inr h)) = absurd (true≢false (sym h ∙ q))

        above : (i : List Label) → (i ≡ k) ⊎ Memᴰ i js → is_lower j i ≡ true
        above i (inl e) = rw e (under (is_lower-total j k))
        above i (inr s) = c.0 i s

pub distinct-ascends : (ks : List (List Label)) → Ascending (distinct ks)
distinct-ascends [] = tt
distinct-ascends (k ∷ ks) = with_key-ascends k (distinct ks) (distinct-ascends ks)

-- two ascending lists with the same members are equal
pub ascending-ext : (xs ys : List (List Label)) → Ascending xs → Ascending ys → ((k : List Label) → Memᴰ k xs → Memᴰ k ys)
    → ((k : List Label) → Memᴰ k ys → Memᴰ k xs) → xs ≡ ys
ascending-ext [] [] c d f g = refl
ascending-ext [] (y ∷ ys) c d f g = absurd (Memᴰ.not-nil (g y (Memᴰ.head refl)))
ascending-ext (x ∷ xs) [] c d f g = absurd (Memᴰ.not-nil (f x (Memᴰ.head refl)))
ascending-ext (x ∷ xs) (y ∷ ys) c d f g =
    let e = heads (Memᴰ.cases_cons (f x (Memᴰ.head refl))) (Memᴰ.cases_cons (g y (Memᴰ.head refl))) in
    let q = ascending-ext xs ys c.1 d.1
    (λ k t. tail xs ys x y e c.0 k t (f k (Memᴰ.tail t)))
    (λ k t. tail ys xs y x (sym e) d.0 k t (g k (Memᴰ.tail t))) in cc
  where
    heads : (x ≡ y) ⊎ Memᴰ x ys → (y ≡ x) ⊎ Memᴰ y xs → x ≡ y
    heads (inl e) q = e
    heads (inr s) (inl e) = sym e
    heads (inr s) (inr t) = absurd (is_lower-irreflexive x (is_lower-transitive x y x (c.0 y t) (d.0 x s)))

    tail : (us ws : List (List Label)) (a b : List Label) → a ≡ b → ((j : List Label) → Memᴰ j us → is_lower a j ≡ true) → (k : List Label)
        → Memᴰ k us → Memᴰ k (b ∷ ws) → Memᴰ k ws
    tail us ws a b e h k t s = go (Memᴰ.cases_cons s)
      where
        go : (k ≡ b) ⊎ Memᴰ k ws → Memᴰ k ws
        go (inl q) = absurd (is_lower-irreflexive k (subst (λ z. is_lower z k ≡ true) (e ∙ sym q) (h k t)))
        go (inr q) = q

pub keys-are-listed : (f : Formula) (A : List Label) → KeysAreListed f A
keys-are-listed f A = record {
  ascending = distinct-ascends (map (key A) (branches f));
  from = λ k t. of_map (key A) (branches f) (of-distinct (map (key A) (branches f)) t);
  onto = λ b t. to_distinct (map (key A) (branches f)) (Memᴰ.map (key A) t);
}
