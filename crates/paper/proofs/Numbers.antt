-- Numbers of transitions over the structure are what the branches say (specs/Statements.antt, 7): `number_of` counts the
-- keys, and `kept_at` has the labels that the class of the k-th key keeps. By induction over the formula, from how those of a
-- join are made of its parts' (proofs/NumberedJoins.antt), for any number w of chosen labels on every branch.
use Prim.Native.Nat.{ℕ, zero, suc, ◌-◌, ◌/◌, ◌%◌, ◌<◌}
use native.Mathlib.Omega.{arith}
use mathlib.Core.Path.{◌≡◌, refl, sym, subst, ap, ◌∙◌}
use mathlib.Core.Bool.{Bool, true, false, cond, true≢false}
use mathlib.Core.List.Memᴰ
use mathlib.Core.List.{List, [], ◌∷◌, ◌++◌, append-nil, Memᴰ}
use mathlib.Core.List.Sublistᴰ
use mathlib.Core.List.{Sublistᴰ}
use lib.Dec.{eqb, ltb}
use lib.ListN.{length, get_or}
use borrow.Author.Tests.{ne_eqb}
use Rattle.paper.specs.Formula.{Label, has, labels, labels_of, Rising, Formula, Formulas}
use Rattle.paper.specs.Formula.{FALSE, test, candidate, conjunction, disjunction, exists, IF, only, ◌⨾◌}
use Rattle.paper.specs.Branch.{branches, of_each, of_any}
use Rattle.paper.specs.Transition.{key, keys, is_kept}
use Rattle.paper.specs.Inside.Structure.KeyCount.{KeyCount, join_keys, key_count_of, number_of, number_of_each}
use Rattle.paper.specs.Inside.Structure.Kept.{kept_at, kept_each, kept_any, kept_all}
use Rattle.paper.specs.Statements.{KeysSay}
use Rattle.paper.proofs.Lists.{to-pairs}
use Rattle.paper.proofs.Labels.{rising-ext, rising-split, branch-sub, any-sub}
use Rattle.paper.proofs.Keys.{of-key, to-key, to-kept, of-kept, key-rises, key-length}
use Rattle.paper.proofs.KeyLists.{get_d-mem, keys_of, Level, of-keys_of}
use Rattle.paper.proofs.KeyLists.{keys-of-keyless, lower-key}
use Rattle.paper.proofs.KeyCounts.{join_keys-unit, count_of_all, count-joined, number-each}
use Rattle.paper.proofs.NumberedJoins.{is_zero, in_turn, Numbered, Alternatives, leaf-numbered, pairs-numbered, keyless-alternatives, keyed-alternatives}
use Rattle.paper.proofs.NumberedJoins.{level-sum, level-first, level-second}

-- every formula has a branch
mutual
  pub a-branch : (f : Formula) → (b : List Label) × Memᴰ b (branches f)
  a-branch (FALSE l) = (l ∷ [], Memᴰ.head refl)
  a-branch (test s) = (s.label ∷ [], Memᴰ.head refl)
  a-branch (candidate l v s) = (l ∷ [], Memᴰ.head refl)
  a-branch (conjunction l fs) = each-branch fs
  a-branch (disjunction l fs) = any-branch fs
  a-branch (exists l s f) = a-branch f
  a-branch (IF l s f g) = let (b, t) = a-branch f in (b, Memᴰ.append_left (branches g) t)

  pub each-branch : (fs : Formulas) → (b : List Label) × Memᴰ b (of_each fs)
  each-branch (only f) = a-branch f
  each-branch (f ⨾ fs) = let (b, t) = a-branch f in let (c, u) = each-branch fs in (b ++ c, to-pairs t u)

  pub any-branch : (fs : Formulas) → (b : List Label) × Memᴰ b (of_any fs)
  any-branch (only f) = a-branch f
  any-branch (f ⨾ fs) = let (b, t) = a-branch f in (b, Memᴰ.append_left (of_any fs) t)

module _ (A : List Label) where
  one-alternative : (w : ℕ) (f : Formula) → Level A w (branches f) → Numbered A w (branches f) (key_count_of A f) (kept_at A f)
      → Alternatives A w (branches f) (key_count_of A f) (kept_all A (only f)) (kept_at A f)
  one-alternative w f level n = record {
    numbers = n.numbers;
    empties = n.empties;
    keeps = λ i h l. n.keeps i h l ∙ ap (λ M. has M l) (sym (either w level (key_count_of A f).empty n.empties i h));
  }
    where
      either : (w : ℕ) → Level A w (branches f) → (e : Bool) → e ≡ is_zero w → (i : ℕ) → i < length (keys_of A (branches f))
          → cond e (kept_all A (only f)) (kept_at A f i) ≡ kept_at A f i
      either w lv false q i h = refl
      either (suc w) lv true q i h = absurd (true≢false q)
      either zero lv true q i h =
          ap (λ t. cond t [] (kept_at A f 0)) (ne_eqb (number_of A f) 0 (λ e. let z = n.numbers in omega arith))
          ∙ ap (kept_at A f) (let z = ap length (keys-of-keyless A (branches f) lv (a-branch f).0 (a-branch f).1) in omega arith)

  -- a formula, and after it other alternatives, whose labels come later
  next-alternative : (p w : ℕ) (f : Formula) (ys : List Label) (cs : List (List Label)) (b : KeyCount) (N : List Label) (kb : ℕ → List Label)
      → Rising p (labels f ++ ys) → ((c : List Label) → Memᴰ c cs → Sublistᴰ c ys) → (c : List Label) × Memᴰ c cs → Level A w (branches f ++ cs)
      → ((q : ℕ) → Rising q (labels f) → Level A w (branches f) → Numbered A w (branches f) (key_count_of A f) (kept_at A f))
      → ((q : ℕ) → Rising q ys → Level A w cs → Alternatives A w cs b N kb)
      → Alternatives A w (branches f ++ cs) (join_keys false (key_count_of A f) b) (kept_all A (only f) ++ N) (in_turn (number_of A f) (kept_at A f) kb)
  next-alternative p w f ys cs b N kb rises later some level left right =
      let (q, le, rf, rs, below) = rising-split p (labels f) ys rises in
      either w first second (one-alternative w f first (left p rf first)) (right q rs second)
    where
      first : Level A w (branches f)
      first c t = level c (Memᴰ.append_left cs t)

      second : Level A w cs
      second c t = level c (Memᴰ.append_right (branches f) t)

      either : (w : ℕ) → Level A w (branches f) → Level A w cs
          → Alternatives A w (branches f) (key_count_of A f) (kept_all A (only f)) (kept_at A f) → Alternatives A w cs b N kb
          → Alternatives A w (branches f ++ cs) (join_keys false (key_count_of A f) b) (kept_all A (only f) ++ N) (in_turn (number_of A f) (kept_at A f) kb)
      either zero lf lc =
          keyless-alternatives A (branches f) cs (key_count_of A f) b _ N (kept_at A f) kb (a-branch f).0 some.0 (a-branch f).1 some.1 lf lc
      either (suc w) lf lc = keyed-alternatives A (branches f) cs (key_count_of A f) b _ N (kept_at A f) kb w
          λ x y s r. lower-key A p w (labels f) ys rises x y (branch-sub f x s) (later y r) (lf x s) (lc y r)

  mutual
    numbered : (p w : ℕ) (f : Formula) → Rising p (labels f) → Level A w (branches f) → Numbered A w (branches f) (key_count_of A f) (kept_at A f)
    numbered p w (FALSE l) r level = leaf-numbered A w l level
    numbered p w (test s) r level = leaf-numbered A w s.label level
    numbered p w (candidate l v s) r level = leaf-numbered A w l level
    numbered p w (conjunction l fs) r level =
        subst (λ c. Numbered A w (of_each fs) c (kept_each A fs)) (sym (count-joined A true fs)) (each-numbered (suc l.0) w fs r.1 level)
    numbered p w (disjunction l fs) r level =
        subst (λ c. Alternatives A w (of_any fs) c (kept_all A fs) (kept_any A fs)) (sym (count-joined A false fs)) (any-numbered (suc l.0) w fs r.1 level)
    numbered p w (exists l s f) r level =
        subst (λ c. Numbered A w (branches f) c (kept_at A f)) (sym (join_keys-unit false (key_count_of A f))) (numbered (suc s.label.0) w f r.1.1 level)
    numbered p w (IF l s f g) r level =
        let fs = f ⨾ only g in
        subst (λ c. Alternatives A w (of_any fs) (join_keys false c (key_count_of A g)) (kept_all A fs) (kept_any A fs))
        (sym (join_keys-unit false (key_count_of A f)))
        (next-alternative (suc s.label.0) w f (labels g) (branches g) (key_count_of A g) _ (kept_at A g) r.1.1 (branch-sub g) (a-branch g) level
        (λ q x y. numbered q w f x y) (λ q x y. one-alternative w g y (numbered q w g x y)))

    each-numbered : (p w : ℕ) (fs : Formulas) → Rising p (labels_of fs) → Level A w (of_each fs)
        → Numbered A w (of_each fs) (count_of_all A true fs) (kept_each A fs)
    each-numbered p w (only f) r level = numbered p w f r level
    each-numbered p w (f ⨾ fs) r level =
        let (q, le, rf, rs, below) = rising-split p (labels f) (labels_of fs) r in
        let (b, t) = a-branch f in
        let (c, u) = each-branch fs in
        let first = level-first A w (branches f) (of_each fs) level b c t u in
        let second = level-second A w (branches f) (of_each fs) level b c t u in
        let sum = level-sum A w (branches f) (of_each fs) level b c t u b c t u in
        pairs-numbered A w _ _ _ (branches f) (of_each fs) _ _ (kept_at A f) (kept_each A fs) sum (number-each A fs) first
        (numbered p _ f rf first) (each-numbered q _ fs rs second)

    any-numbered : (p w : ℕ) (fs : Formulas) → Rising p (labels_of fs) → Level A w (of_any fs)
        → Alternatives A w (of_any fs) (count_of_all A false fs) (kept_all A fs) (kept_any A fs)
    any-numbered p w (only f) r level = one-alternative w f level (numbered p w f r level)
    any-numbered p w (f ⨾ fs) r level =
        next-alternative p w f (labels_of fs) (of_any fs) (count_of_all A false fs) (kept_all A fs) (kept_any A fs) r (any-sub fs) (any-branch fs) level
        (λ q x y. numbered q w f x y) (λ q x y. any-numbered q w fs x y)

-- what a transition keeps is a part of the labels, in order
part-either : (t : Bool) {x y zs : List Label} → Sublistᴰ x zs → Sublistᴰ y zs → Sublistᴰ (cond t x y) zs
part-either true p q = p
part-either false p q = q

part-first : {x xs : List Label} (ys : List Label) → Sublistᴰ x xs → Sublistᴰ x (xs ++ ys)
part-first {x} {xs} ys p = subst (λ z. Sublistᴰ z (xs ++ ys)) (append-nil x) (Sublistᴰ.append p (Sublistᴰ.nil-sublist ys))

module _ (A : List Label) where
  part-any : (f : Formula) → Sublistᴰ (kept_at A f 0) (labels f) → Sublistᴰ (kept_all A (only f)) (labels f)
  part-any f = part-either (eqb (number_of A f) 0) (Sublistᴰ.nil-sublist (labels f))

  part-in-turn : (f : Formula) (ys : List Label) (kb : ℕ → List Label) (i : ℕ) → Sublistᴰ (kept_at A f i) (labels f) → Sublistᴰ (kb (i - number_of A f)) ys
      → Sublistᴰ (in_turn (number_of A f) (kept_at A f) kb i) (labels f ++ ys)
  part-in-turn f ys kb i p q = part-either (ltb i (number_of A f)) (part-first ys p) (Sublistᴰ.append (Sublistᴰ.nil-sublist (labels f)) q)

  mutual
    pub kept-sub : (f : Formula) (i : ℕ) → Sublistᴰ (kept_at A f i) (labels f)
    kept-sub (FALSE l) i = Sublistᴰ.refl (l ∷ [])
    kept-sub (test s) i = Sublistᴰ.refl (s.label ∷ [])
    kept-sub (candidate l v s) i = part-first (s.label ∷ []) (Sublistᴰ.refl (l ∷ []))
    kept-sub (conjunction l fs) i = Sublistᴰ.cons (each-kept-sub fs i)
    kept-sub (disjunction l fs) i = Sublistᴰ.cons (part-either (key_count_of A (disjunction l fs)).empty (all-kept-sub fs) (any-kept-sub fs i))
    kept-sub (exists l s f) i = Sublistᴰ.cons (Sublistᴰ.cons (kept-sub f i))
    kept-sub (IF l s f g) i = Sublistᴰ.cons (Sublistᴰ.cons (part-either (key_count_of A (IF l s f g)).empty
        (Sublistᴰ.append (part-any f (kept-sub f 0)) (part-any g (kept-sub g 0)))
        (part-in-turn f (labels g) (kept_at A g) i (kept-sub f i) (kept-sub g (i - number_of A f)))))

    each-kept-sub : (fs : Formulas) (i : ℕ) → Sublistᴰ (kept_each A fs i) (labels_of fs)
    each-kept-sub (only f) i = kept-sub f i
    each-kept-sub (f ⨾ fs) i = Sublistᴰ.append (kept-sub f (i / number_of_each A fs)) (each-kept-sub fs (i % number_of_each A fs))

    any-kept-sub : (fs : Formulas) (i : ℕ) → Sublistᴰ (kept_any A fs i) (labels_of fs)
    any-kept-sub (only f) i = kept-sub f i
    any-kept-sub (f ⨾ fs) i = part-in-turn f (labels_of fs) (kept_any A fs) i (kept-sub f i) (any-kept-sub fs (i - number_of A f))

    all-kept-sub : (fs : Formulas) → Sublistᴰ (kept_all A fs) (labels_of fs)
    all-kept-sub (only f) = part-any f (kept-sub f 0)
    all-kept-sub (f ⨾ fs) = Sublistᴰ.append (part-any f (kept-sub f 0)) (all-kept-sub fs)

pub numbers-say : (#V : ℕ) (f : Formula) (A : List Label) → KeysSay #V f A
numbers-say #V f A formed homogeneous minimal = record { count = sym n.numbers; kth_key = same_key; kth_kept = n.keeps }
  where
    n : Numbered A #V (branches f) (key_count_of A f) (kept_at A f)
    n = numbered A 0 #V f formed.rising (key-length #V f A formed homogeneous minimal)

    -- both rise, and have the chosen labels that the class keeps
    same_key : (k : ℕ) → k < length (keys f A) → get_or (keys f A) k [] ≡ key A (kept_at A f k)
    same_key k h =
        let (b, t, e) = of-keys_of A (branches f) (get_d-mem (keys f A) k h) in
        let keeps : (l : Label) → is_kept f A (key A b) l ≡ has (kept_at A f k) l = λ l. rw (← e) (n.keeps k h l) in
        e ∙ rising-ext 0 0 (key A b) (key A (kept_at A f k)) (key-rises A (branch-sub f b t) formed.rising) (key-rises A (kept-sub A f k) formed.rising)
        (λ l q. let (x, y) = of-key A b l q in to-key A (kept_at A f k) l (sym (keeps l) ∙ to-kept A (branches f) (key A b) b l t refl x) y)
        (λ l q. let (x, y) = of-key A (kept_at A f k) l q in
        let (c, u, d, z) = of-kept A (branches f) (key A b) l (keeps l ∙ x) in subst (λ j. has j l ≡ true) d (to-key A c l z y))
