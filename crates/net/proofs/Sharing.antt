-- Two candidates share a branch exactly if they are one, or the last row over both is a conjunction (specs/Inside/Prior.antt,
-- `share_branch_in`). By induction over the formula: where both stand in one child of a join, the last row over both stands there
-- too, and they share a branch as they do in that child; where they stand in two, it is the join's own row, and they share a
-- branch exactly if the join is a conjunction, as every candidate is on some branch.
use Prim.Native.Nat.{ℕ, ◌+◌, ◌<◌, ◌≤◌}
use native.Mathlib.Omega.{arith}
use mathlib.Core.Path.{◌≡◌, refl, sym, ap, ◌∙◌}
use mathlib.Core.Bool.{Bool, true, false, cond, ◌&&◌, ◌||◌, and-true, and-false, or-true, or-false}
use mathlib.Core.Logic.{◌⊎◌, inl, inr}
use mathlib.Core.List.{List, [], ◌∷◌, ◌++◌, Memᴰ}
use lib.ListN.{length, length-append}
use lib.Dec.{eqb}
use borrow.Author.Tests.{eqb-true, eqb-false, lt-ltb, le-ltb, le-leb, lt-leb}
use Rattle.paper.specs.declared.Label.{Label}
use Rattle.paper.specs.Formula.{ℓ, has, labels, labels_of, Star, Formula, Formulas, FALSE, test, candidate, conjunction, disjunction, exists, IF, only, ◌⨾◌}
use Rattle.paper.specs.Branch.{branches}
use Rattle.paper.specs.Before.{share_branch}
use Rattle.paper.specs.Inside.Structure.Share.{holds_all, some_branch_holds, each_holds, any_holds}
use Rattle.paper.proofs.Bools.{both, and_left, pick}
use Rattle.paper.proofs.Lists.{to-any, of-any}
use Rattle.paper.proofs.Share.{some_holds, sharing-says}
use Rattle.rows.specs.Rows.{kind_of, end_of}
use Rattle.written.specs.Written.{size}
use Rattle.rows.proofs.Meets.{lt-or-le}
use Rattle.written.proofs.Writes.{RowIs, StarIs, Writes, WritesAll}
use Rattle.rows.specs.Inside.Tree.{is_under}
use Rattle.net.specs.Inside.Prior.{over_both, share_branch_in}
use Rattle.paper.proofs.Last.{last-is}
use Rattle.net.proofs.Spans.{ends-inside, Among, past_row, past-star, no-candidate, own_row, either-part}
use Rattle.net.proofs.OnBranches.{some-nothing, each-nothing, some-lacks, each-lacks, any-lacks, candidate-held, candidates-held}

-- two rows, i and j, and those over both
module _ (rows : List ℕ) (i j : ℕ) where
  abbrev over : ℕ → Bool
  over a = is_under rows a i && is_under rows a j

  ends-before-i : (a : ℕ) → end_of rows a ≤ i → over a ≡ false
  ends-before-i a h = simp (le-ltb i (end_of rows a) h, and-false)

  ends-before-j : (a : ℕ) → end_of rows a ≤ j → over a ≡ false
  ends-before-j a h = simp (le-ltb j (end_of rows a) h, and-false)

  behind-j : (a : ℕ) → j < a → over a ≡ false
  behind-j a h = simp (lt-leb a j h, and-false)

  -- the last row over both
  record Last (top : ℕ) : Type 0 where
    before : top < i
    is-over : over top ≡ true
    last : (a : ℕ) → top < a → a < i → over a ≡ false

  last-over-both : {top : ℕ} → Last top → over_both rows i j ≡ top
  unfolding over_both
  last-over-both {top} l = last-is over 0 i top (record { below = l.before; passes = l.is-over; above = l.last })

  -- what is told of both in the rows of a formula: the last row over both, and whether some branch holds both
  record Parting (held : Bool) : Type 0 where
    top : ℕ
    last : Last top
    told : held ≡ eqb (kind_of rows top) 3

  -- and in the rows of a join's children, from k on, whether some branch of each, joined, or of any one holds both:
  -- they stand in two children, so that no row there is over both, or in one
  data Meeting (each any : Bool) (k : ℕ) : Type 0 where
    apart : ((a : ℕ) → k ≤ a → a < i → over a ≡ false) → each ≡ true → any ≡ false → Meeting each any k
    inside : (top : ℕ) → Last top → each ≡ eqb (kind_of rows top) 3 → any ≡ eqb (kind_of rows top) 3 → Meeting each any k

  -- a join, from what is told of its children; no row between its own and theirs is over both
  module _ {reads : List ℕ} {top kind arg end t k n : ℕ} (row : RowIs rows reads top kind arg end t) (a : Among rows i k n) (b : Among rows j k n)
      (later : top < k) (room : k + n ≤ end) (between : (r : ℕ) → top < r → r < k → over r ≡ false) where
    join-is-last : ((r : ℕ) → k ≤ r → r < i → over r ≡ false) → Last top
    join-is-last none = record {
      before = omega (arith, a.from);
      is-over =
          let ends = row.end_is in
          simp (
            le-leb top i (omega (arith, a.from)),
            le-leb top j (omega (arith, b.from)),
            lt-ltb i (end_of rows top) (omega (arith, a.below)),
            lt-ltb j (end_of rows top) (omega (arith, b.below)),
          );
      last = λ r h c. pick (lt-or-le r k) (between r h) (λ l. none r l c);
    }

    join-parts : {each any : Bool} → Meeting each any k → Parting (cond (eqb kind 3) each any)
    join-parts (apart none y n) = record { top = top; last = join-is-last none; told = rw (row.kind_is, y, n) (by_kind (eqb kind 3)) }
      where
        by_kind : (c : Bool) → cond c true false ≡ c
        by_kind true = refl
        by_kind false = refl
    join-parts (inside r l y n) = record { top = r; last = l; told = rw (y, n) (of-any-kind (eqb kind 3)) }
      where
        of-any-kind : (c : Bool) → cond c (eqb (kind_of rows r) 3) (eqb (kind_of rows r) 3) ≡ eqb (kind_of rows r) 3
        of-any-kind true = refl
        of-any-kind false = refl

module _ (rows reads : List ℕ) where
  -- the labels of two candidates
  module _ (i j : ℕ) where
    abbrev Two : List Label
    Two = ℓ i ∷ ℓ j ∷ []

    -- what is told of both in a child and those after it
    module _ (f : Formula) (fs : Formulas) (k t u : ℕ) (w : Writes rows reads f k t) (ws : WritesAll rows reads fs (k + size f) u) where
      abbrev InFirst : ℕ → Type 0
      InFirst x = Among rows x k (size f)

      abbrev InRest : ℕ → Type 0
      InRest x = Among rows x (k + size f) (length (labels_of fs))

      abbrev OfRest : Type 0
      OfRest = Meeting rows i j (each_holds fs Two) (any_holds fs Two) (k + size f)

      abbrev OfAll : Type 0
      OfAll = Meeting rows i j (each_holds (f ⨾ fs) Two) (any_holds (f ⨾ fs) Two) k

      -- no branch of the first holds a label of the rest, nor the other way round
      first-lacks : (S : List Label) {x : ℕ} → Memᴰ (ℓ x) S → InRest x → some_branch_holds f S ≡ false
      first-lacks S {x} m c = some-lacks rows reads S x m f k t w c.from

      each-of-rest-lacks : (S : List Label) {x : ℕ} → Memᴰ (ℓ x) S → InFirst x → each_holds fs S ≡ false
      each-of-rest-lacks S {x} m c = each-lacks rows reads S x m fs (k + size f) u ws c.below

      any-of-rest-lacks : (S : List Label) {x : ℕ} → Memᴰ (ℓ x) S → InFirst x → any_holds fs S ≡ false
      any-of-rest-lacks S {x} m c = any-lacks rows reads S x m fs (k + size f) u ws c.below

      i-of-two : Memᴰ (ℓ i) Two
      i-of-two = Memᴰ.head refl

      j-of-two : Memᴰ (ℓ j) Two
      j-of-two = Memᴰ.tail (Memᴰ.head refl)

      -- each row of the first ends before the rest
      ends-before-rest : (a : ℕ) → k ≤ a → a < k + size f → end_of rows a ≤ k + size f
      ends-before-rest a h b = ends-inside rows reads f k t a w h b

      both_first : InFirst i → InFirst j → Parting rows i j (some_branch_holds f Two) → OfAll
      both_first a b p =
          let ii = each-of-rest-lacks (ℓ i ∷ []) (Memᴰ.head refl) a in
          let jj = each-of-rest-lacks (ℓ j ∷ []) (Memᴰ.head refl) b in
          let ij = each-of-rest-lacks Two i-of-two a in
          inside p.top p.last (simp (each-nothing fs, ii, jj, ij, and-true, and-false, or-false) p.told)
          (simp (any-of-rest-lacks Two i-of-two a, or-false) p.told)

      both_later : InRest i → InRest j → OfRest → OfAll
      both_later a b = go
        where
          each_same : each_holds (f ⨾ fs) Two ≡ each_holds fs Two
          each_same =
              let ii = first-lacks (ℓ i ∷ []) (Memᴰ.head refl) a in
              let jj = first-lacks (ℓ j ∷ []) (Memᴰ.head refl) b in
              simp (some-nothing f, ii, jj, first-lacks Two i-of-two a, or-false)

          any_same : any_holds (f ⨾ fs) Two ≡ any_holds fs Two
          any_same = simp (first-lacks Two i-of-two a)

          go : OfRest → OfAll
          go (inside top last y n) = inside top last (each_same ∙ y) (any_same ∙ n)
          go (apart none y n) = apart before (each_same ∙ y) (any_same ∙ n)
            where
              before : (r : ℕ) → k ≤ r → r < i → over rows i j r ≡ false
              before r h c =
                  pick (lt-or-le r (k + size f))
                  (λ l. ends-before-i rows i j r (omega (arith, ends-before-rest r h l, a.from))) (λ l. none r l c)

      i-first : InFirst i → InRest j → OfAll
      i-first a b =
          let y = candidate-held rows reads f k t w a in
          let z = (candidates-held rows reads fs (k + size f) u ws b).0 in
          apart (λ r h c. ends-before-j rows i j r (omega (arith, ends-before-rest r h (omega (arith, a.below)), b.from)))
          (simp (y, z, or-true)) (simp (first-lacks Two j-of-two b, any-of-rest-lacks Two i-of-two a))

      j-first : InRest i → InFirst j → OfAll
      j-first a b =
          let y = candidate-held rows reads f k t w b in
          let z = (candidates-held rows reads fs (k + size f) u ws a).0 in
          apart before (simp (y, z, or-true)) (simp (first-lacks Two i-of-two a, any-of-rest-lacks Two j-of-two b))
        where
          before : (r : ℕ) → k ≤ r → r < i → over rows i j r ≡ false
          before r h c =
              pick (lt-or-le r (k + size f)) (λ l. ends-before-i rows i j r (omega (arith, ends-before-rest r h l, a.from)))
              (λ l. behind-j rows i j r (omega (arith, b.below)))

      meeting-of-parts : Among rows i k (length (labels f ++ labels_of fs)) → Among rows j k (length (labels f ++ labels_of fs))
          → (InFirst i → InFirst j → Parting rows i j (some_branch_holds f Two)) → (InRest i → InRest j → OfRest) → OfAll
      meeting-of-parts a b first rest = go (either-part (labels f) (labels_of fs) a) (either-part (labels f) (labels_of fs) b)
        where
          go : InFirst i ⊎ InRest i → InFirst j ⊎ InRest j → OfAll
          go (inl c) (inl d) = both_first c d (first c d)
          go (inl c) (inr d) = i-first c d
          go (inr c) (inl d) = j-first c d
          go (inr c) (inr d) = both_later c d (rest c d)

    -- a star ends before what it guards
    star-between : {k n t : ℕ} {s : Star} → StarIs rows reads s (k + 1) t → Among rows i (k + 2) n → (r : ℕ) → k < r → r < k + 2 → over rows i j r ≡ false
    star-between {k} own c r h b =
        let e : r ≡ k + 1 = omega arith in rw e (ends-before-i rows i j (k + 1) (omega (arith, own.row_is.end_is, c.from)))

    module _ (two : i ≡ j → ⊥) where
      mutual
        parting : (f : Formula) (k t : ℕ) → Writes rows reads f k t → Among rows i k (size f) → Among rows j k (size f)
            → Parting rows i j (some_branch_holds f Two)
        parting (FALSE l) k t w a b = absurd (no-candidate w.1 refl a)
        parting (test s) k t w a b = absurd (no-candidate w.row_is refl a)
        parting (candidate l v s) k t w a b = absurd (two (own_row w.2 a ∙ sym (own_row w.2 b)))
        parting (conjunction l fs) k t w a b =
            let c = past_row w.1 refl a in
            let d = past_row w.1 refl b in
            join-parts rows i j w.1 c d (omega arith) (omega arith) (λ r h e. absurd (omega arith)) (meeting fs (k + 1) t w.2 c d)
        parting (disjunction l fs) k t w a b =
            let c = past_row w.1 refl a in
            let d = past_row w.1 refl b in
            join-parts rows i j w.1 c d (omega arith) (omega arith) (λ r h e. absurd (omega arith)) (meeting fs (k + 1) t w.2 c d)
        parting (exists l s f) k t w a b = parting f (k + 2) _ w.3 (past-star w.1 w.2 refl a) (past-star w.1 w.2 refl b)
        parting (IF l s f g) k t w a b =
            let c = past-star w.1 w.2 refl a in
            let d = past-star w.1 w.2 refl b in
            join-parts rows i j w.1 c d (omega arith) (omega (arith, length-append (labels f) (labels g))) (star-between w.2 c)
            (meeting-of-parts f (only g) (k + 2) _ _ w.3 w.4 c d (λ x y. parting f (k + 2) _ w.3 x y)
            (λ x y. let p = parting g (k + 2 + size f) _ w.4 x y in inside p.top p.last p.told p.told))

        meeting : (fs : Formulas) (k t : ℕ) → WritesAll rows reads fs k t → Among rows i k (length (labels_of fs)) → Among rows j k (length (labels_of fs))
            → Meeting rows i j (each_holds fs Two) (any_holds fs Two) k
        meeting (only f) k t w a b = let p = parting f k t w a b in inside p.top p.last p.told p.told
        meeting (f ⨾ fs) k t w a b =
            meeting-of-parts f fs k t _ w.0 w.1 a b (λ c d. parting f k t w.0 c d) (λ c d. meeting fs (k + size f) _ w.1 c d)

  -- two candidates of a formula share a branch as their rows say
  module _ (f : Formula) (k t : ℕ) (w : Writes rows reads f k t) where
    -- one candidate with itself
    shares-with-itself : (i : ℕ) → Among rows i k (size f) → share_branch f (ℓ i) (ℓ i) ≡ true
    shares-with-itself i a =
        let (b, m, h) = of-any (λ b. holds_all b (ℓ i ∷ [])) (branches f) (sym (some_holds f (ℓ i ∷ [])) ∙ candidate-held rows reads f k t w a) in
        let e = and_left (has b (ℓ i)) true h in
        to-any (λ b. has b (ℓ i) && has b (ℓ i)) m (both (has b (ℓ i)) _ e e)

    pub sharing-is-together : (i j : ℕ) → Among rows i k (size f) → Among rows j k (size f) → share_branch f (ℓ i) (ℓ j) ≡ share_branch_in rows i j
    unfolding share_branch_in
    sharing-is-together i j a b = go (eqb i j) refl
      where
        go : (e : Bool) → eqb i j ≡ e → share_branch f (ℓ i) (ℓ j) ≡ (e || eqb (kind_of rows (over_both rows i j)) 3)
        go true e = rw (← eqb-true i j e) (shares-with-itself i a)
        go false e =
            let p = parting i j (eqb-false i j e) f k t w a b in
            sharing-says 0 f [] (ℓ i) (ℓ j) ∙ p.told ∙ ap (λ r. eqb (kind_of rows r) 3) (sym (last-over-both rows i j p.last))
