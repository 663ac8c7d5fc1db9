-- Chains as data, and as the test `leads` finds them: two indices that lead to one another are on a cycle, and one on a
-- cycle has a last step back to itself.
use Prim.Native.Nat.{ℕ, ◌<◌}
use mathlib.Core.Path.{◌≡◌, refl, sym, subst}
use mathlib.Core.Bool.{Bool, true, ◌&&◌}
use mathlib.Core.Logic.{◌⊎◌, inl, inr}
use mathlib.Core.List.Memᴰ
use mathlib.Core.List.{List, [], ◌∷◌, Memᴰ}
use Rattle.paper.proofs.UpTo.{in-up_to, of-up_to}
use Rattle.paper.specs.Order.{leads}
use Rattle.paper.proofs.Bools.{both, and_left, and_right, or_left, or_right, or_cases, pick}
use Rattle.paper.specs.Lists.{up_to}
use Rattle.fingers.specs.Inside.Graph.{Graph}
use Rattle.cycles.specs.Inside.Path.{is_cyclic, Trail, here, step}

module _ (R : ℕ → ℕ → Bool) where
  leads-step : (ks : List ℕ) (i j : ℕ) → R i j ≡ true → leads R ks i j ≡ true
  leads-step [] i j h = h
  leads-step (k ∷ ks) i j h = or_left (leads R ks i j) _ (leads-step ks i j h)

  leads-trans : (ks : List ℕ) (i k j : ℕ) → Memᴰ k ks → leads R ks i k ≡ true → leads R ks k j ≡ true → leads R ks i j ≡ true
  leads-trans [] i k j t a b = absurd (Memᴰ.not-nil t)
  leads-trans (x ∷ ks) i k j t a b = go (Memᴰ.cases_cons t) (or_cases (leads R ks i k) _ a) (or_cases (leads R ks k j) _ b) (leads-trans ks)
    where
      through : leads R ks i x ≡ true → leads R ks x j ≡ true → leads R (x ∷ ks) i j ≡ true
      through p q = or_right (leads R ks i j) _ (both (leads R ks i x) _ p q)

      first : (a b : ℕ) → (leads R ks a x && leads R ks x b) ≡ true → leads R ks a x ≡ true
      first a b p = and_left (leads R ks a x) _ p

      second : (a b : ℕ) → (leads R ks a x && leads R ks x b) ≡ true → leads R ks x b ≡ true
      second a b p = and_right (leads R ks a x) _ p

      to-x : k ≡ x → (leads R ks i k ≡ true) ⊎ ((leads R ks i x && leads R ks x k) ≡ true) → leads R ks i x ≡ true
      to-x e (inl p) = subst (λ z. leads R ks i z ≡ true) e p
      to-x e (inr p) = first i k p

      from-x : k ≡ x → (leads R ks k j ≡ true) ⊎ ((leads R ks k x && leads R ks x j) ≡ true) → leads R ks x j ≡ true
      from-x e (inl p) = subst (λ z. leads R ks z j ≡ true) e p
      from-x e (inr p) = second k j p

      go : (k ≡ x) ⊎ Memᴰ k ks → (leads R ks i k ≡ true) ⊎ ((leads R ks i x && leads R ks x k) ≡ true)
          → (leads R ks k j ≡ true) ⊎ ((leads R ks k x && leads R ks x j) ≡ true)
          → ((i k j : ℕ) → Memᴰ k ks → leads R ks i k ≡ true → leads R ks k j ≡ true → leads R ks i j ≡ true) → leads R (x ∷ ks) i j ≡ true
      go (inl e) p q r = through (to-x e p) (from-x e q)
      go (inr m) (inl p) (inl q) r = or_left (leads R ks i j) _ (r i k j m p q)
      go (inr m) (inl p) (inr q) r = through (r i k x m p (first k j q)) (second k j q)
      go (inr m) (inr p) (inl q) r = through (first i k p) (r x k j m (second i k p) q)
      go (inr m) (inr p) (inr q) r = through (first i k p) (second k j q)

module _ (g : Graph) where
  pub chains-join : {i k j : ℕ} → Trail g i k → Trail g k j → Trail g i j
  chains-join here t = t
  chains-join (step h e s) t = step h e (chains-join s t)

  begins : {i j : ℕ} → Trail g i j → (i ≡ j) ⊎ (i < g.size)
  begins here = inl refl
  begins (step h e s) = inr h

  abbrev lead : ℕ → ℕ → Bool
  lead i j = leads g.before (up_to g.size) i j

  lead-step : (i j : ℕ) → g.before i j ≡ true → lead i j ≡ true
  lead-step = leads-step g.before (up_to g.size)

  lead-trans : (i k j : ℕ) → k < g.size → lead i k ≡ true → lead k j ≡ true → lead i j ≡ true
  lead-trans i k j h = leads-trans g.before (up_to g.size) i k j (in-up_to g.size k h)

  -- a chain between two indices is found by the test
  chain-leads : {i j : ℕ} → Trail g i j → (i ≡ j) ⊎ (lead i j ≡ true)
  chain-leads here = inl refl
  chain-leads {i} {j} (step {k = k} h e s) = go (begins s) (chain-leads s)
    where
      go : (k ≡ j) ⊎ (k < g.size) → (k ≡ j) ⊎ (lead k j ≡ true) → (i ≡ j) ⊎ (lead i j ≡ true)
      go s (inl q) = inr (subst (λ z. lead i z ≡ true) q (lead-step i k e))
      go (inl p) (inr q) = inr (subst (λ z. lead i z ≡ true) p (lead-step i k e))
      go (inr l) (inr q) = inr (lead-trans i k j l (lead-step i k e) q)

  -- two indices that lead to one another are on a cycle; so is one that is before itself
  pub cyclic-of : (i j : ℕ) → j < g.size → (i ≡ j → ⊥) → Trail g i j → Trail g j i → is_cyclic g i ≡ true
  unfolding is_cyclic
  cyclic-of i j h d s t =
      pick (chain-leads s) (λ e. absurd (d e)) (λ a. pick (chain-leads t) (λ e. absurd (d (sym e))) (λ b. lead-trans i j i h a b))

  pub cyclic-self : (i : ℕ) → g.before i i ≡ true → is_cyclic g i ≡ true
  unfolding is_cyclic
  cyclic-self i e = lead-step i i e

  -- the last step of what the test finds
  abbrev Ends : ℕ → ℕ → Type 0
  Ends i j = (x : ℕ) × (x < g.size) × Trail g i x × (g.before x j ≡ true)

  ends_join : (i k j : ℕ) → Ends i k → Ends k j → Ends i j
  ends_join i k j (x, h, s, e) (y, l, t, f) = (y, l, chains-join s (step h e t), f)

  leads-ends : (ks : List ℕ) → ((k : ℕ) → Memᴰ k ks → k < g.size) → (i j : ℕ) → i < g.size → leads g.before ks i j ≡ true → Ends i j
  leads-ends [] all i j h e = (i, h, here, e)
  leads-ends (k ∷ ks) all i j h e =
      let more = leads-ends ks (λ x t. all x (Memᴰ.tail t)) in
      pick (or_cases (leads g.before ks i j) _ e) (more i j h)
      (λ q. ends_join i k j (more i k h (and_left (leads g.before ks i k) _ q))
      (more k j (all k (Memᴰ.head refl)) (and_right (leads g.before ks i k) _ q)))

  pub of-cyclic : (i : ℕ) → i < g.size → is_cyclic g i ≡ true → (x : ℕ) × (x < g.size) × Trail g i x × (g.before x i ≡ true)
  unfolding is_cyclic
  of-cyclic i h e = leads-ends (up_to g.size) (of-up_to g.size) i i h e
