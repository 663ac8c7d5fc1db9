-- A search from spot to spot, and the finger that it ends with; the finger that each index starts with.
use Prim.Native.Nat.{ℕ, ◌+◌, ◌/◌, ◌%◌, ◌<◌, ◌≤◌}
use native.Mathlib.Omega.{arith}
use mathlib.Core.Path.{◌≡◌, refl, sym, subst, ap, ◌∙◌}
use mathlib.Core.Bool.{Bool, true, false, ◌&&◌, not}
use mathlib.Core.List.{List}
use lib.Dec.{eqb, ltb}
use lib.ListN.{length, get_or, set, length-set}
use lib.Seq.{get_or-set_other}
use borrow.Author.Tests.{ne_eqb, lt-ltb, le-ltb, ltb-true, not-true, not-false}
use Rattle.paper.specs.Limits.{slots, most_reads}
use Rattle.paper.proofs.Bools.{both, and_left, and_right, not_so}
use Rattle.rows.specs.Rows.{kind_of, from_of}
use Rattle.net.specs.Inside.Prior.{is_frozen, variable_of, prior}
use Rattle.net.specs.declared.Net.{Net}
use Rattle.fingers.specs.Inside.Followable.{Followable}
use Rattle.fingers.specs.Inside.Graph.{Graph, Next, free, outside, Started}
use Rattle.fingers.specs.Inside.Spots.{packed, calls, start_of, AtStart, pending, After, SpotOf, Sought, passed_of, finger_of, graph_of, Answered}
use Rattle.paper.proofs.Tests.{by, by-eq, never, at_set}
use Rattle.fingers.proofs.Guards.{frozen-is}
use Rattle.fingers.proofs.GoesOn.{chained, joins, some-star, opened}
use Rattle.fingers.proofs.Finding.{found_none, found_here, found-later}

-- outside an empty path is what is new
pub outside-free : (mark : List ℕ) (i : ℕ) → outside mark 0 i ≡ free mark i
unfolding outside free
outside-free mark i = one (get_or mark i 0)
  where
    one : (a : ℕ) → (not (eqb a 1) && ltb a (0 + 2)) ≡ eqb a 0
    one a = by-eq a 0 (λ e. rw e) (λ d. by-eq a 1 (λ e. rw e) (λ q. rw (ne_eqb a 0 d, ne_eqb a 1 q) (le-ltb a 2 (omega arith))))

pub next-alike : (g : Graph) (o o' : ℕ → Bool) (j p f l : ℕ) → ((i : ℕ) → o i ≡ o' i) → Next g o j p f l → Next g o' j p f l
next-alike g o o' j p f l e x = record {
  good = x.good;
  to = x.to;
  out = x.out;
  none = λ i hi a b c. x.none i hi a b (e i ∙ c);
  hit = λ h. (sym (e l) ∙ (x.hit h).0, (x.hit h).1);
}

-- the parts of a number that packs three
unpacked : (s r k : ℕ) → r < 65536 → k < 65536 → (packed s r k / 4294967296 ≡ s) × (packed s r k / 65536 % 65536 ≡ r) × (packed s r k % 65536 ≡ k)
unpacked s r k a b = (omega arith, omega arith, omega arith)

module _ (rows reads chosen : List ℕ) (#N : ℕ) where
  -- the search moves on, past an index that does not call
  module _ (o : ℕ → Bool) (j s₀ r₀ k₀ : ℕ) where
    pub sought-none : SpotOf rows reads chosen #N j s₀ r₀ k₀ → Sought rows reads chosen #N o j s₀ r₀ k₀ s₀ r₀ k₀
    sought-none P = record { at = P; none = λ i hi e f. never _ e f; onto = refl }

    not-prior : (k : ℕ) → k < length chosen → calls rows chosen o k j ≡ false → o k ≡ true → prior rows reads chosen k j ≡ false
    unfolding calls prior
    not-prior k h e q =
        not_so _ (λ p. never _ (both (ltb k (length chosen)) _ (lt-ltb k (length chosen) h)
        (both (o k) _ q (and_right (is_frozen rows reads (get_or chosen j 0) (variable_of rows chosen k)) _ p))) e)

    pub sought-more : (net : Net) → Followable rows reads chosen net #N → (s r k s' r' k' : ℕ) → 0 < s
        → Sought rows reads chosen #N o j s₀ r₀ k₀ s r k → calls rows chosen o k j ≡ false → After rows reads chosen #N s r k s' r' k'
        → Sought rows reads chosen #N o j s₀ r₀ k₀ s' r' k'
    sought-more net ready s r k s' r' k' h x e a = record {
      at = record { spot = a.spot; frozen = λ i q. x.at.frozen i (a.old i q) };
      none = λ i hi b f q. by (pending rows reads chosen s r k i)
          (λ c. let z = a.only i hi c f in
          subst (λ y. prior rows reads chosen y j ≡ false) (sym z.1) (not-prior k z.0 e (subst (λ y. o y ≡ true) z.1 q)))
          (λ c. x.none i hi b c q);
      onto = x.onto ∙ found-later rows reads chosen o j net #N ready s r k s' r' k' h e a;
    }

  -- the search ends
  module _ (o : ℕ → Bool) (j p : ℕ) where
    abbrev SoughtTo : ℕ → ℕ → ℕ → Type 0
    SoughtTo s r k = Sought rows reads chosen #N o j (p / 4294967296) (p / 65536 % 65536) (p % 65536) s r k

    finds : (f s r k : ℕ) → f / 4294967296 ≡ s → f / 65536 % 65536 ≡ r → f % 65536 ≡ k → (l : ℕ) → l ≤ length chosen → SoughtTo s r k
        → (l < length chosen → (o l ≡ true) × (prior rows reads chosen l j ≡ true))
        → (length chosen ≤ l → (i : ℕ) → pending rows reads chosen s r k i ≡ false) → Next (graph_of rows reads chosen #N) o j p f l
    unfolding passed_of finger_of
    finds f s r k a b c l hl x hit out = record {
      good = rw (a, b, c) x.at;
      to = hl;
      none = λ i hi u v q. x.none i hi (not-false _ v) (same i ∙ not-true _ u) q;
      hit = hit;
      out = λ e i hi. ap not (sym (same i) ∙ out e i);
    }
      where
        same : (i : ℕ) → pending rows reads chosen s r k i ≡ pending rows reads chosen (f / 4294967296) (f / 65536 % 65536) (f % 65536) i
        same i = rw (a, b, c)

    next-hit : (s r k : ℕ) → length chosen < slots → 0 < s → SoughtTo s r k → calls rows chosen o k j ≡ true
        → Next (graph_of rows reads chosen #N) o j p (packed s r k) k
    unfolding calls prior
    next-hit s r k small h x e =
        let l = ltb-true k (length chosen) (and_left (ltb k (length chosen)) _ e) in
        let q = and_right (ltb k (length chosen)) _ e in
        let u = unpacked s r k (let z = x.at.spot.read h in omega arith) (omega arith) in
        finds (packed s r k) s r k u.0 u.1 u.2 k (omega arith) x
        (λ _. (
          and_left (o k) _ q,
          both (is_frozen rows reads (get_or chosen j 0) (variable_of rows chosen k)) _
              (x.at.frozen k (joins rows reads chosen s r k k h (chained l refl (omega arith)))) (and_right (o k) _ q),
        ))
        (λ g. absurd (omega arith))

    next-out : (s r k : ℕ) → s ≡ 0 → SoughtTo s r k → Next (graph_of rows reads chosen #N) o j p 0 (length chosen)
    next-out s r k e x = finds 0 0 0 0 refl refl refl (length chosen) (omega arith) ended (λ g. absurd (omega arith)) (λ _. gone 0 0 0 refl)
      where
        gone : (s r k : ℕ) → s ≡ 0 → (i : ℕ) → pending rows reads chosen s r k i ≡ false
        gone s r k z i = not_so _ (λ q. let y = some-star rows reads chosen s r k i q in omega arith)

        ended : SoughtTo 0 0 0
        ended = record {
          at = record {
            spot = record {
              star = let z = x.at.spot.star in omega arith;
              kind = λ q. absurd (omega arith);
              read = λ q. absurd (omega arith);
              index = omega arith;
            };
            frozen = λ i q. never _ q (gone 0 0 0 refl i);
          };
          none = λ i hi b c q. x.none i hi b (gone s r k e i) q;
          onto = x.onto ∙ found_none rows reads chosen o j s r k e ∙ sym (found_none rows reads chosen o j 0 0 0 refl);
        }

    pub sought-hit : (s r k : ℕ) → length chosen < slots → 0 < s → SoughtTo s r k → calls rows chosen o k j ≡ true
        → Answered rows reads chosen #N o j p (record { finger = packed s r k; index = k })
    sought-hit s r k small h x e = record {
      next = next-hit s r k small h x e;
      exactly = sym (x.onto ∙ found_here rows reads chosen o j s r k h e);
    }

    pub sought-out : (s r k : ℕ) → s ≡ 0 → SoughtTo s r k → Answered rows reads chosen #N o j p (record { finger = 0; index = length chosen })
    sought-out s r k e x = record {
      next = next-out s r k e x;
      exactly = sym (x.onto ∙ found_none rows reads chosen o j s r k e);
    }

  -- the finger before all that the own star of j reads
  module _ (net : Net) (ready : Followable rows reads chosen net #N) (j : ℕ) (hj : j < length chosen) where
    abbrev own : ℕ
    own = get_or chosen j 0 + 1

    pub own_in : own < #N
    own_in = ready.choice.below j hj

    pub own-star : kind_of rows own ≡ 1
    own-star = ready.choice.tree.starred (get_or chosen j 0) (let z = own_in in omega arith) (ready.choice.candidates j hj)

    pub from_in : from_of rows own ≤ most_reads
    from_in = let z = ready.read own own_in own-star in omega (arith, ready.few)

    -- what lies from it on is what is frozen at j
    pub all_frozen : (i : ℕ)
        → pending rows reads chosen own (from_of rows own) (length chosen) i ≡ is_frozen rows reads (get_or chosen j 0) (variable_of rows chosen i)
    all_frozen i =
        opened rows reads chosen own i (omega arith)
        ∙ sym (frozen-is rows reads #N ready.choice.tree ready.guarded (get_or chosen j 0) (variable_of rows chosen i) (let z = own_in in omega arith)
        (ready.choice.candidates j hj))

    start-parts : (start_of rows chosen j / 4294967296 ≡ own) × (start_of rows chosen j / 65536 % 65536 ≡ from_of rows own)
        × (start_of rows chosen j % 65536 ≡ length chosen)
    unfolding start_of
    start-parts = unpacked own (from_of rows own) (length chosen) (let z = from_in in omega arith) (let z = ready.choice.few in omega arith)

    start-spot : finger_of rows reads chosen #N j (start_of rows chosen j)
    unfolding finger_of
    start-spot = let e = start-parts in rw (e.0, e.1, e.2) (record {
      spot = record { star = own_in; kind = λ _. own-star; read = λ _. from_in; index = omega arith };
      frozen = λ i q. sym (all_frozen i) ∙ q;
    })

    start-clear : (i : ℕ) → passed_of rows reads chosen #N j (start_of rows chosen j) i ≡ true → prior rows reads chosen i j ≡ false
    unfolding passed_of prior
    start-clear i e =
        let s = start-parts in
        let f = start_of rows chosen j in
        let gone = not-true (pending rows reads chosen (f / 4294967296) (f / 65536 % 65536) (f % 65536) i) e in
        let none : pending rows reads chosen own (from_of rows own) (length chosen) i ≡ false = rw (s.0, s.1, s.2) at gone in
        not_so _ (λ p. never _ (and_left (is_frozen rows reads (get_or chosen j 0) (variable_of rows chosen i)) _ p) (sym (all_frozen i) ∙ none))

  pub started : (net : Net) (old finger : List ℕ) → Followable rows reads chosen net #N → AtStart rows chosen (length chosen) old finger
      → Started (graph_of rows reads chosen #N) finger
  started net old finger ready a = record {
    size = a.size;
    within = λ j h. subst (finger_of rows reads chosen #N j) (sym (a.starts j h)) (start-spot net ready j h);
    clear = λ j h i hi e. start-clear net ready j h i (subst (λ z. passed_of rows reads chosen #N j z i ≡ true) (a.starts j h) e);
  }

pub start-more : (rows chosen old finger : List ℕ) (k f : ℕ) → k < slots → f ≡ start_of rows chosen k → AtStart rows chosen k old finger
    → AtStart rows chosen (k + 1) old (set finger k f)
start-more rows chosen old finger k f h e a = record {
  size = length-set finger k f ∙ a.size;
  starts = λ j hj. at_set finger k f (omega (arith, a.size)) (λ z. z ≡ start_of rows chosen j) j (λ q. rw (q, e)) (λ q. a.starts j (omega arith));
  others = λ j hj. get_or-set_other finger k j f 0 (λ q. omega arith) ∙ a.others j (omega arith);
}
