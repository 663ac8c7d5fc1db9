-- Propositions 5, 6 and 7 of document 001, the first half of Proposition 8, and Theorem 2 (specs/Statements.antt, 3).
-- Two inductions on the formula carry them all: a slice that is true stays true by a larger set of labels (StaysTrue.antt), and a true
-- slice has a branch within its set that slices true.
use Prim.Native.Nat.{ℕ}
use mathlib.Core.Path.{◌≡◌, refl}
use mathlib.Core.Bool.{Bool, true, false, cond, ◌||◌}
use mathlib.Core.Logic.{inl, inr}
use mathlib.Core.List.Memᴰ
use mathlib.Core.List.{List, [], ◌∷◌, ◌++◌, Memᴰ}
use Rattle.paper.specs.Formula.{Label, Formula, Formulas, FALSE, test, candidate, conjunction, disjunction, exists, IF, only, ◌⨾◌, has}
use Rattle.paper.specs.BoolForm.{Part}
use Rattle.paper.specs.Branch.{branches, of_each, of_any}
use Rattle.paper.specs.Transition.{slice_by, slices_by, key, same_key, is_kept, keys, transition, transitions}
use Rattle.paper.specs.Meaning.{Meaning, True, EachTrue, AnyTrue}
use Rattle.paper.specs.Statements.{Proposition5, Proposition6, Proposition7, union, Theorem2}
use Rattle.paper.proofs.Bools.{or_left, pick}
use Rattle.paper.proofs.Lists.{to-any, to-those, of_map, to-pairs}
use Rattle.paper.proofs.Labels.{has-head, has_left, has_right, has-cases, has_one}
use Rattle.paper.proofs.Distinct.{same_key-refl, keys-are-listed}
use Rattle.paper.proofs.StaysTrue.{all, slice-by-all, stays-true, stays-true-each}

-- a true slice has a branch within its set that slices true: Proposition 5 for a slice
module _ (m : Meaning) (S : Label → Bool) where
  -- a branch of a list within S, with a claim on it
  abbrev HasBranch : List (List Label) → (List Label → Type 0) → Type 0
  HasBranch bs P = (b : List Label) × Memᴰ b bs × Part (has b) S × P b

  inside-leaf : (xs : List ℕ) (f : Formula) (l : Label) → True m xs (cond (S l) f (FALSE l))
      → HasBranch ((l ∷ []) ∷ []) (λ b. True m xs (cond (has b l) f (FALSE l)))
  inside-leaf xs f l h = go (S l) refl h
    where
      go : (t : Bool) → S l ≡ t → True m xs (cond t f (FALSE l)) → HasBranch ((l ∷ []) ∷ []) (λ b. True m xs (cond (has b l) f (FALSE l)))
      go true e k = (l ∷ [], Memᴰ.head refl, λ i p. rw (has_one l i p) e, rw (has-head l []) k)
      go false e k = absurd k

  mutual
    pub inside : (xs : List ℕ) (f : Formula) → True m xs (slice_by S f) → HasBranch (branches f) (λ b. True m xs (slice_by (has b) f))
    inside xs (FALSE l) h = absurd h
    inside xs (test s) h = inside-leaf xs (test s) s.label h
    inside xs (candidate l v s) h = inside-leaf xs (candidate l v s) l h
    inside xs (conjunction l fs) h = inside-each xs fs h
    inside xs (disjunction l fs) h = inside-any xs fs h
    inside xs (exists l s f) (x, i, h) =
        let (b, t, p, r) = inside (xs ++ (x ∷ [])) f h in (b, t, p, (x, i, r))
    inside xs (IF l s f g) (inl (y, h)) =
        let (b, t, p, r) = inside xs f h in (b, Memᴰ.append_left (branches g) t, p, inl (y, r))
    inside xs (IF l s f g) (inr (y, h)) =
        let (b, t, p, r) = inside xs g h in (b, Memᴰ.append_right (branches f) t, p, inr (y, r))

    inside-each : (xs : List ℕ) (fs : Formulas) → EachTrue m xs (slices_by S fs) → HasBranch (of_each fs) (λ b. EachTrue m xs (slices_by (has b) fs))
    inside-each xs (only f) h = inside xs f h
    inside-each xs (f ⨾ fs) (h, k) =
        let (b, t, p, r) = inside xs f h in
        let (c, u, q, s) = inside-each xs fs k in
        let first = stays-true m (has b) (has (b ++ c)) (has_left b c) xs f r in
        let rest = stays-true-each m (has c) (has (b ++ c)) (has_right b c) xs fs s in
        (b ++ c, to-pairs t u, λ l z. pick (has-cases b c l z) (p l) (q l), (first, rest))

    inside-any : (xs : List ℕ) (fs : Formulas) → AnyTrue m xs (slices_by S fs) → HasBranch (of_any fs) (λ b. AnyTrue m xs (slices_by (has b) fs))
    inside-any xs (only f) h = inside xs f h
    inside-any xs (f ⨾ fs) (inl h) =
        let (b, t, p, r) = inside xs f h in (b, Memᴰ.append_left (of_any fs) t, p, inl r)
    inside-any xs (f ⨾ fs) (inr h) =
        let (b, t, p, r) = inside-any xs fs h in (b, Memᴰ.append_right (branches f) t, p, inr r)

pub proposition5 : (m : Meaning) (xs : List ℕ) (f : Formula) → Proposition5 m xs f
proposition5 m xs f h = let (b, t, p, r) = inside m all xs f (rw (slice-by-all f) h) in (b, t, r)

pub proposition6 : (m : Meaning) (xs : List ℕ) (f : Formula) → Proposition6 m xs f
proposition6 m xs f S h = rw (slice-by-all f) at (stays-true m S all (λ l e. refl) xs f h)

pub proposition7 : (m : Meaning) (xs : List ℕ) (f : Formula) → Proposition7 m xs f
proposition7 m xs f S T h = stays-true m S (λ l. S l || T l) (λ l e. or_left (S l) (T l) e) xs f h

-- the first half of Proposition 8
pub some_branch : (m : Meaning) (xs : List ℕ) (f : Formula) (bs : List (List Label)) → ((b : List Label) → Memᴰ b bs → Memᴰ b (branches f))
    → True m xs (slice_by (union m xs f bs) f) → (b : List Label) × Memᴰ b (branches f) × True m xs (slice_by (has b) f)
some_branch m xs f bs t h = proposition5 m xs f (proposition6 m xs f (union m xs f bs) h)

-- a transition keeps the branches of its class
pub branch-is-kept : (f : Formula) (A b : List Label) → Memᴰ b (branches f) → Part (has b) (is_kept f A (key A b))
branch-is-kept f A b t l h = to-any (λ c. has c l) (to-those (λ c. same_key (key A c) (key A b)) t (same_key-refl (key A b))) h

pub theorem2 : (m : Meaning) (xs : List ℕ) (f : Formula) (A : List Label) → Theorem2 m xs f A
theorem2 m xs f A = (there, back)
  where
    there : True m xs f → (t : Formula) × Memᴰ t (transitions f A) × True m xs t
    there h =
        let (b, t, r) = proposition5 m xs f h in
        let listed = Memᴰ.map (transition f A) ((keys-are-listed f A).onto b t) in
        (transition f A (key A b), listed, stays-true m (has b) (is_kept f A (key A b)) (branch-is-kept f A b t) xs f r)

    back : (t : Formula) × Memᴰ t (transitions f A) × True m xs t → True m xs f
    back (t, s, h) = let (k, u, e) = of_map (transition f A) (keys f A) s in proposition6 m xs f (is_kept f A k) (rw e at h)
