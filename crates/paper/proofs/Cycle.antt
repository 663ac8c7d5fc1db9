-- Chains of a relation R between labels of A. The test for a cycle finds exactly the chains from a label to itself:
-- a chain leads through labels of A only, and what leads from one label to another is made of chains.
-- A chain stays within every transitive relation that holds R, so an order that respects R leaves no cycle.
use mathlib.Core.Path.{◌≡◌, sym, subst, ◌∙◌}
use mathlib.Core.Bool.{Bool, true, ◌&&◌, true≢false, false≢true}
use mathlib.Core.Logic.{◌⊎◌, inl, inr, ◌↔◌}
use mathlib.Core.List.{List, [], ◌∷◌}
use Rattle.paper.specs.Formula.{Label, same, has}
use Rattle.paper.specs.Order.{Acyclic, Chain, link, ◌then◌, leads, on_cycle}
use Rattle.paper.specs.Statements.{Between}
use Rattle.paper.proofs.Bools.{or_left, or_right, or_cases, both, and_left, and_right, pick}
use Rattle.paper.proofs.Labels.{same-eq}

module _ (R : Label → Label → Bool) where
  chains-join : {i j k : Label} → Chain R i j → Chain R j k → Chain R i k
  chains-join (link h) d = ◌then◌ h d
  chains-join (◌then◌ h c) d = ◌then◌ h (chains-join c d)

  pub leads-chain : (ks : List Label) (i j : Label) → leads R ks i j ≡ true → Chain R i j
  leads-chain [] i j h = link h
  leads-chain (k ∷ ks) i j h =
      pick (or_cases (leads R ks i j) _ h) (leads-chain ks i j)
      (λ p. chains-join (leads-chain ks i k (and_left (leads R ks i k) _ p)) (leads-chain ks k j (and_right (leads R ks i k) _ p)))

  pub leads-step : (ks : List Label) (i j : Label) → R i j ≡ true → leads R ks i j ≡ true
  leads-step [] i j h = h
  leads-step (k ∷ ks) i j h = or_left (leads R ks i j) _ (leads-step ks i j h)

  pub leads-trans : (ks : List Label) (i k j : Label) → has ks k ≡ true → leads R ks i k ≡ true → leads R ks k j ≡ true → leads R ks i j ≡ true
  leads-trans [] i k j h a b = absurd (false≢true h)
  leads-trans (x ∷ ks) i k j h a b = go (or_cases (same k x) (has ks k) h) (or_cases (leads R ks i k) _ a) (or_cases (leads R ks k j) _ b) (leads-trans ks)
    where
      through : leads R ks i x ≡ true → leads R ks x j ≡ true → leads R (x ∷ ks) i j ≡ true
      through p q = or_right (leads R ks i j) _ (both (leads R ks i x) _ p q)

      -- the two ways to x, and the two ways from it, where the label between is x
      to-x : k ≡ x → (leads R ks i k ≡ true) ⊎ ((leads R ks i x && leads R ks x k) ≡ true) → leads R ks i x ≡ true
      to-x e p = pick p (subst (λ z. leads R ks i z ≡ true) e) (and_left (leads R ks i x) _)

      from-x : k ≡ x → (leads R ks k j ≡ true) ⊎ ((leads R ks k x && leads R ks x j) ≡ true) → leads R ks x j ≡ true
      from-x e p = pick p (subst (λ z. leads R ks z j ≡ true) e) (and_right (leads R ks k x) _)

      go : (same k x ≡ true) ⊎ (has ks k ≡ true)
          → (leads R ks i k ≡ true) ⊎ ((leads R ks i x && leads R ks x k) ≡ true) → (leads R ks k j ≡ true) ⊎ ((leads R ks k x && leads R ks x j) ≡ true)
          → ((i k j : Label) → has ks k ≡ true → leads R ks i k ≡ true → leads R ks k j ≡ true → leads R ks i j ≡ true) → leads R (x ∷ ks) i j ≡ true
      go (inl e) p q r = through (to-x (same-eq k x e) p) (from-x (same-eq k x e) q)
      go (inr m) (inl p) (inl q) r = or_left (leads R ks i j) _ (r i k j m p q)
      go (inr m) (inl p) (inr q) r = through (r i k x m p (and_left (leads R ks k x) _ q)) (and_right (leads R ks k x) _ q)
      go (inr m) (inr p) (inl q) r = through (and_left (leads R ks i x) _ p) (r x k j m (and_right (leads R ks i x) _ p) q)
      go (inr m) (inr p) (inr q) r = through (and_left (leads R ks i x) _ p) (and_right (leads R ks k x) _ q)

  -- a chain stays within any transitive relation that holds R
  chain-within : (S : Label → Label → Bool) → ((i j : Label) → R i j ≡ true → S i j ≡ true) → ((i j k : Label) → S i j ≡ true → S j k ≡ true → S i k ≡ true)
      → {i j : Label} → Chain R i j → S i j ≡ true
  chain-within S sub tr (link {i = i} {j = j} h) = sub i j h
  chain-within S sub tr (◌then◌ {i = i} {j = j} {k = k} h c) = tr i j k (sub i j h) (chain-within S sub tr c)

module _ (R : Label → Label → Bool) (A : List Label) (between : Between R A) where
  pub chain-starts : {i j : Label} → Chain R i j → has A i ≡ true
  chain-starts (link {i = i} {j = j} h) = (between i j h).0
  chain-starts (◌then◌ {i = i} {j = j} h c) = (between i j h).0

  chain-leads : {i j : Label} → Chain R i j → leads R A i j ≡ true
  chain-leads (link {i = i} {j = j} h) = leads-step R A i j h
  chain-leads (◌then◌ {i = i} {j = j} {k = k} h c) = leads-trans R A i j k (between i j h).1 (leads-step R A i j h) (chain-leads c)

  pub on-cycle : (l : Label) → (on_cycle R A l ≡ true) ↔ Chain R l l
  on-cycle l = (leads-chain R A l l, chain-leads)

  pub acyclic-no-cycle : Acyclic R A → (l : Label) → Chain R l l → ⊥
  acyclic-no-cycle a l c = true≢false (sym (chain-within R a.◌≺◌ a.respects a.transitive c) ∙ a.irreflexive l (chain-starts c))
