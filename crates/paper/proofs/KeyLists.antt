-- The distinct keys of a list of branches, and what the class of a key keeps, by how the list is made. Joined branches
-- have the joined keys, the first part the most significant; where the labels of some branches all come before those of
-- others, so do the keys; and branches without a chosen label have the empty key only. A list of keys is known by this,
-- that it ascends and has the right members.
use Prim.Native.Nat.{ℕ, zero, suc, ◌+◌, ◌*◌, ◌/◌, ◌%◌, ◌<◌}
use native.Mathlib.Omega.{arith}
use native.Mathlib.Nat.{zero-mul, suc-mul, mul-zero, mod-lt, div-lt_iff_lt-mul, div-add-mod'}
use mathlib.Core.Path.{◌≡◌, refl, sym, subst, ap, ◌∙◌}
use mathlib.Core.Bool.{true, false, ◌||◌, false≢true}
use mathlib.Core.List.Memᴰ
use mathlib.Core.List.{List, [], ◌∷◌, ◌++◌, map, Memᴰ}
use mathlib.Core.List.{Sublistᴰ}
use lib.Dec.{ltb}
use lib.ListN.{length, get_or, take, drop, length-append, length-map, get_or-append}
use lib.Seq.{get_or-append-add, take_at, drop_at}
use borrow.Author.Tests.{lt-ltb}
use Rattle.paper.specs.Lists.{pairs}
use Rattle.paper.specs.Formula.{Label, same, has, Rising}
use Rattle.paper.specs.Transition.{key, same_key, is_lower, distinct, Ascending}
use Rattle.paper.proofs.Bools.{or_left, or_right, or_cases, both, and_left, and_right, not_so, same_answer, pick}
use Rattle.paper.proofs.Lists.{any_append, of_map, to-pairs, of-pairs, of-those, those-append}
use Rattle.paper.proofs.Labels.{same_refl, mem-has, has_left, has_right, has-cases, sub-has, rising-split, rising-above}
use Rattle.paper.proofs.Distinct.{to_distinct, of-distinct, distinct-ascends, ascending-ext}
use Rattle.paper.proofs.Keys.{class_in, kept_in, to-kept, of-kept}

-- keys that are joined
lower-behind : (j k c : List Label) → is_lower j k ≡ true → is_lower (c ++ j) (c ++ k) ≡ true
lower-behind j k [] h = h
lower-behind j k (l ∷ c) h = or_right (ltb l.0 l.0) _ (both (same l l) _ (same_refl l) (lower-behind j k c h))

lower-before : (j k c d : List Label) → length j ≡ length k → is_lower j k ≡ true → is_lower (j ++ c) (k ++ d) ≡ true
lower-before [] [] c d e h = absurd (false≢true h)
lower-before [] (y ∷ k) c d e h = absurd (omega arith)
lower-before (x ∷ j) [] c d e h = absurd (omega arith)
lower-before (x ∷ j) (y ∷ k) c d e h =
    let r = lower-before j k c d (omega arith) in
    pick (or_cases (ltb x.0 y.0) _ h) (or_left (ltb x.0 y.0) _)
    (λ p. or_right (ltb x.0 y.0) _ (both (same x y) _ (and_left (same x y) _ p) (r (and_right (same x y) _ p))))

ascending-append : (ks ls : List (List Label)) → Ascending ks → Ascending ls
    → ((k l : List Label) → Memᴰ k ks → Memᴰ l ls → is_lower k l ≡ true) → Ascending (ks ++ ls)
ascending-append [] ls a b h = b
ascending-append (k ∷ ks) ls a b h =
    (λ j t. pick (Memᴰ.append_cases ks t) (a.0 j) (h k j (Memᴰ.head refl)), ascending-append ks ls a.1 b (λ i j t. h i j (Memᴰ.tail t)))

ascending-behind : (c : List Label) (ls : List (List Label)) → Ascending ls → Ascending (map (λ l. c ++ l) ls)
ascending-behind c [] a = tt
ascending-behind c (l ∷ ls) a =
    (λ j t. let (k, u, e) = of_map (λ l. c ++ l) ls t in rw e (lower-behind l k c (a.0 k u)), ascending-behind c ls a.1)

ascending-pairs : (w : ℕ) (ks ls : List (List Label)) → Ascending ks → Ascending ls → ((k : List Label) → Memᴰ k ks → length k ≡ w)
    → Ascending (pairs ks ls)
ascending-pairs w [] ls a b h = tt
ascending-pairs w (k ∷ ks) ls a b h =
    ascending-append (map (λ l. k ++ l) ls) (pairs ks ls) (ascending-behind k ls b) (ascending-pairs w ks ls a.1 b (λ j t. h j (Memᴰ.tail t))) lower
  where
    lower : (i j : List Label) → Memᴰ i (map (λ l. k ++ l) ls) → Memᴰ j (pairs ks ls) → is_lower i j ≡ true
    lower i j t u =
        let (l, s, e) = of_map (λ l. k ++ l) ls t in
        let (m, n, q, r, d) = of-pairs ks ls u in
        rw (e, d) (lower-before k m l n (h k (Memᴰ.head refl) ∙ sym (h m (Memᴰ.tail q))) (a.0 m q))

empty-key : (k : List Label) → length k ≡ 0 → k ≡ []
empty-key [] e = refl
empty-key (l ∷ k) e = absurd (omega arith)

-- the i-th of a list, and of joined lists
pub get_d-mem : (ks : List (List Label)) (i : ℕ) → i < length ks → Memᴰ (get_or ks i []) ks
get_d-mem [] i h = absurd (omega arith)
get_d-mem (k ∷ ks) zero h = Memᴰ.head refl
get_d-mem (k ∷ ks) (suc i) h = Memᴰ.tail (get_d-mem ks i (omega arith))

get_d-behind : (c : List Label) (ls : List (List Label)) (i : ℕ) → i < length ls → get_or (map (λ l. c ++ l) ls) i [] ≡ c ++ get_or ls i []
get_d-behind c [] i h = absurd (omega arith)
get_d-behind c (l ∷ ls) zero h = refl
get_d-behind c (l ∷ ls) (suc i) h = get_d-behind c ls i (omega arith)

pub length_pairs : (ks ls : List (List Label)) → length (pairs ks ls) ≡ length ks * length ls
length_pairs [] ls = simp zero-mul
length_pairs (k ∷ ks) ls = simp (length-append, length-map, length_pairs ks ls, suc-mul) (omega arith)

get_d-pairs : (ks ls : List (List Label)) (q r : ℕ) → q < length ks → r < length ls
    → get_or (pairs ks ls) (q * length ls + r) [] ≡ get_or ks q [] ++ get_or ls r []
get_d-pairs [] ls q r h k = absurd (omega arith)
get_d-pairs (c ∷ ks) ls zero r h k =
    let e : 0 * length ls + r ≡ r = omega arith in
    let z = length-map ls (λ l. c ++ l) in
    ap (λ i. get_or (pairs (c ∷ ks) ls) i []) e ∙ get_or-append (map (λ l. c ++ l) ls) (pairs ks ls) [] r (omega arith) ∙ get_d-behind c ls r k
get_d-pairs (c ∷ ks) ls (suc q) r h k =
    let y = suc-mul q (length ls) in
    let z = length-map ls (λ l. c ++ l) in
    let e : suc q * length ls + r ≡ length (map (λ l. c ++ l) ls) + (q * length ls + r) = omega arith in
    ap (λ i. get_or (pairs (c ∷ ks) ls) i []) e
    ∙ get_or-append-add (map (λ l. c ++ l) ls) (pairs ks ls) (q * length ls + r) []
    ∙ get_d-pairs ks ls q r (omega arith) k

positive : (i n m : ℕ) → i < n * m → 0 < m
positive i n zero h = let z = mul-zero n in absurd (omega arith)
positive i n (suc m) h = omega arith

-- by quotient and remainder
pub at-pairs : (ks ls : List (List Label)) (i : ℕ) → i < length (pairs ks ls)
    → (i / length ls < length ks) × (i % length ls < length ls) × (get_or (pairs ks ls) i [] ≡ get_or ks (i / length ls) [] ++ get_or ls (i % length ls) [])
at-pairs ks ls i h =
    let below : i < length ks * length ls = rw length_pairs at h in
    let some = positive i (length ks) (length ls) below in
    let q : i / length ls < length ks = (div-lt_iff_lt-mul some).1 below in
    let r = mod-lt i some in
    (q, r, ap (λ z. get_or (pairs ks ls) z []) (sym (div-add-mod' i (length ls))) ∙ get_d-pairs ks ls (i / length ls) (i % length ls) q r)

module _ (A : List Label) where
  -- the distinct keys of a list of branches, as `keys` has them of a formula's
  abbrev pub keys_of : List (List Label) → List (List Label)
  keys_of bs = distinct (map (key A) bs)

  -- every branch has w chosen labels
  abbrev pub Level : ℕ → List (List Label) → Type 0
  Level w bs = (b : List Label) → Memᴰ b bs → length (key A b) ≡ w

  pub key-append : (b c : List Label) → key A (b ++ c) ≡ key A b ++ key A c
  key-append = those-append (has A)

  pub of-keys_of : {k : List Label} (bs : List (List Label)) → Memᴰ k (keys_of bs) → (b : List Label) × Memᴰ b bs × (k ≡ key A b)
  of-keys_of bs t = of_map (key A) bs (of-distinct (map (key A) bs) t)

  pub to-keys_of : {b : List Label} (bs : List (List Label)) → Memᴰ b bs → Memᴰ (key A b) (keys_of bs)
  to-keys_of bs t = to_distinct (map (key A) bs) (Memᴰ.map (key A) t)

  keys-are : (bs ks : List (List Label)) → Ascending ks → ((k : List Label) → Memᴰ k ks → (b : List Label) × Memᴰ b bs × (k ≡ key A b))
      → ((b : List Label) → Memᴰ b bs → Memᴰ (key A b) ks) → keys_of bs ≡ ks
  keys-are bs ks ascends from onto =
      ascending-ext (keys_of bs) ks (distinct-ascends (map (key A) bs)) ascends
      (λ k t. let (b, u, e) = of-keys_of bs t in rw e (onto b u)) (λ k t. let (b, u, e) = from k t in rw e (to-keys_of bs u))

  pub keys-of-pairs : (w : ℕ) (bs cs : List (List Label)) → Level w bs → keys_of (pairs bs cs) ≡ pairs (keys_of bs) (keys_of cs)
  keys-of-pairs w bs cs level = keys-are (pairs bs cs) (pairs (keys_of bs) (keys_of cs)) ascends from onto
    where
      ascends : Ascending (pairs (keys_of bs) (keys_of cs))
      ascends =
          ascending-pairs w (keys_of bs) (keys_of cs) (distinct-ascends (map (key A) bs)) (distinct-ascends (map (key A) cs))
          (λ k t. let (b, u, e) = of-keys_of bs t in rw e (level b u))

      from : (k : List Label) → Memᴰ k (pairs (keys_of bs) (keys_of cs)) → (b : List Label) × Memᴰ b (pairs bs cs) × (k ≡ key A b)
      from k t =
          let (i, j, u, s, e) = of-pairs (keys_of bs) (keys_of cs) t in
          let (b, x, p) = of-keys_of bs u in
          let (c, y, q) = of-keys_of cs s in (b ++ c, to-pairs x y, cc (key-append b c))

      onto : (b : List Label) → Memᴰ b (pairs bs cs) → Memᴰ (key A b) (pairs (keys_of bs) (keys_of cs))
      onto b t = let (c, d, u, s, e) = of-pairs bs cs t in rw (e, key-append c d) (to-pairs (to-keys_of bs u) (to-keys_of cs s))

  pub keys-of-append : (bs cs : List (List Label)) → ((b c : List Label) → Memᴰ b bs → Memᴰ c cs → is_lower (key A b) (key A c) ≡ true)
      → keys_of (bs ++ cs) ≡ keys_of bs ++ keys_of cs
  keys-of-append bs cs lower = keys-are (bs ++ cs) (keys_of bs ++ keys_of cs) ascends from onto
    where
      ascends : Ascending (keys_of bs ++ keys_of cs)
      ascends = ascending-append (keys_of bs) (keys_of cs) (distinct-ascends (map (key A) bs)) (distinct-ascends (map (key A) cs)) λ k l t u.
          let (b, x, p) = of-keys_of bs t in
          let (c, y, q) = of-keys_of cs u in rw (p, q) (lower b c x y)

      from : (k : List Label) → Memᴰ k (keys_of bs ++ keys_of cs) → (b : List Label) × Memᴰ b (bs ++ cs) × (k ≡ key A b)
      from k t =
          pick (Memᴰ.append_cases (keys_of bs) t) (λ u. let (b, x, p) = of-keys_of bs u in (b, Memᴰ.append_left cs x, p))
          (λ u. let (c, y, q) = of-keys_of cs u in (c, Memᴰ.append_right bs y, q))

      onto : (b : List Label) → Memᴰ b (bs ++ cs) → Memᴰ (key A b) (keys_of bs ++ keys_of cs)
      onto b t =
          pick (Memᴰ.append_cases bs t) (λ u. Memᴰ.append_left (keys_of cs) (to-keys_of bs u)) (λ u. Memᴰ.append_right (keys_of bs) (to-keys_of cs u))

  pub keys-of-keyless : (bs : List (List Label)) → Level 0 bs → (b : List Label) → Memᴰ b bs → keys_of bs ≡ [] ∷ []
  keys-of-keyless bs level b t =
      keys-are bs ([] ∷ []) (λ j s. absurd (Memᴰ.not-nil s), tt) (λ k s. (b, t, Memᴰ.eq_of_singleton s ∙ sym (empty-key (key A b) (level b t))))
      (λ c s. Memᴰ.head (empty-key (key A c) (level c s)))

  -- branches among the labels xs, and others among ys, which all come later
  module _ (p w : ℕ) (xs ys : List Label) (rises : Rising p (xs ++ ys)) where
    front : (b k : List Label) → key A b ≡ k → length k ≡ suc w → (l : Label) × (j : List Label) × (k ≡ l ∷ j) × (has b l ≡ true)
    front b [] e h = absurd (omega arith)
    front b (l ∷ k) e h = (l, k, refl, mem-has (of-those (has A) b (subst (Memᴰ l) (sym e) (Memᴰ.head refl))).0)

    pub lower-key : (b c : List Label) → Sublistᴰ b xs → Sublistᴰ c ys → length (key A b) ≡ suc w → length (key A c) ≡ suc w
        → is_lower (key A b) (key A c) ≡ true
    lower-key b c s t h k =
        let (q, le, rx, ry, below) = rising-split p xs ys rises in
        let (i, i', ei, hi) = front b (key A b) refl h in
        let (j, j', ej, hj) = front c (key A c) refl k in
        let u = below i (sub-has i s hi) in
        let v = rising-above ys j ry (sub-has j t hj) in
        rw (ei, ej) (or_left (ltb i.0 j.0) _ (lt-ltb i.0 j.0 (omega arith)))

  -- what branches keep at a key, by how their list is made
  pub kept_append : (bs cs : List (List Label)) (k : List Label) (l : Label) → kept_in A (bs ++ cs) k l ≡ (kept_in A bs k l || kept_in A cs k l)
  kept_append bs cs k l = rw (those-append (λ b. same_key (key A b) k) bs cs) (any_append (λ b. has b l) (class_in A bs k) (class_in A cs k))

  pub kept-none : (bs : List (List Label)) (k : List Label) (l : Label) → ((b : List Label) → Memᴰ b bs → key A b ≡ k → ⊥) → kept_in A bs k l ≡ false
  kept-none bs k l never = not_so (kept_in A bs k l) λ h. let (b, t, e, q) = of-kept A bs k l h in never b t e

  pub kept-pairs : (w : ℕ) (bs cs : List (List Label)) → Level w bs → (b c : List Label) → Memᴰ b bs → Memᴰ c cs → (l : Label)
      → kept_in A (pairs bs cs) (key A b ++ key A c) l ≡ (kept_in A bs (key A b) l || kept_in A cs (key A c) l)
  kept-pairs w bs cs level b c t u l = same_answer _ (kept_in A bs (key A b) l || kept_in A cs (key A c) l) there back
    where
      there : kept_in A (pairs bs cs) (key A b ++ key A c) l ≡ true → (kept_in A bs (key A b) l || kept_in A cs (key A c) l) ≡ true
      there h =
          let (d, s, e, q) = of-kept A (pairs bs cs) (key A b ++ key A c) l h in
          let (x, y, m, n, p) = of-pairs bs cs s in
          let joint : key A x ++ key A y ≡ key A b ++ key A c = sym (key-append x y) ∙ ap (key A) (sym p) ∙ e in
          let equal = level x m ∙ sym (level b t) in
          let first = sym (take_at (key A x) (key A y) _ equal) ∙ ap (take (length (key A b))) joint ∙ take_at (key A b) (key A c) _ refl in
          let second = sym (drop_at (key A x) (key A y) _ equal) ∙ ap (drop (length (key A b))) joint ∙ drop_at (key A b) (key A c) _ refl in
          pick (has-cases x y l (rw p at q)) (λ r. or_left (kept_in A bs (key A b) l) _ (to-kept A bs (key A b) x l m first r))
          (λ r. or_right (kept_in A bs (key A b) l) _ (to-kept A cs (key A c) y l n second r))

      found : (x y : List Label) → Memᴰ x bs → Memᴰ y cs → key A x ≡ key A b → key A y ≡ key A c → has (x ++ y) l ≡ true
          → kept_in A (pairs bs cs) (key A b ++ key A c) l ≡ true
      found x y m n p q = to-kept A (pairs bs cs) (key A b ++ key A c) (x ++ y) l (to-pairs m n) (cc (key-append x y))

      back : (kept_in A bs (key A b) l || kept_in A cs (key A c) l) ≡ true → kept_in A (pairs bs cs) (key A b ++ key A c) l ≡ true
      back h =
          pick (or_cases (kept_in A bs (key A b) l) _ h) (λ r. let (x, m, e, q) = of-kept A bs (key A b) l r in found x c m u e refl (has_left x c l q))
          (λ r. let (y, n, e, q) = of-kept A cs (key A c) l r in found b y t n refl e (has_right b y l q))
