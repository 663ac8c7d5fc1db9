-- For each public function, any two outcomes that its contract allows are equal: the answer, or every word of the lent net.
use Prim.Native.Nat.{ℕ}
use mathlib.Core.Path.{◌≡◌, refl, sym, ap, ◌∙◌}
use mathlib.Core.List.{List}
use Rattle.paper.specs.Formula.{ℓ}
use Rattle.paper.specs.Outcome.{OneOutcome}
use Rattle.paper.proofs.Outcome.{by-equation, by_entries}
use Rattle.paper.proofs.Tests.{by-lt}
use Rattle.net.specs.declared.Net.{Net}
use Rattle.net.specs.Inside.Net.{Words, Noted}
use Rattle.net.proofs as net

same-words : {#L #A #M : ℕ} {f : ℕ → ℕ} {old : List ℕ} (xs ys : List ℕ) → Words #L f #A #M old xs → Words #L f #A #M old ys → xs ≡ ys
same-words {#A = #A} {#M = #M} xs ys p q =
    by_entries xs ys (p.size ∙ sym q.size) (λ i h. by-lt i #M
    (λ l. by-lt i #A (λ m. p.before i m ∙ sym (q.before i m)) (λ m. p.given i m l ∙ sym (q.given i m l)))
    (λ l. p.behind i l ∙ sym (q.behind i l)))

one-net : {rows chosen : List ℕ} {#N : ℕ} {old : Net} (x y : Net) → Noted rows chosen #N old x → Noted rows chosen #N old y → x ≡ y
one-net x y p q = λ i. record {
  parents = same-words x.parents y.parents p.parents q.parents i;
  guards = same-words x.guards y.guards p.guards q.guards i;
  nexts = same-words x.nexts y.nexts p.nexts q.nexts i;
  firsts = same-words x.firsts y.firsts p.firsts q.firsts i;
}

pub net-guard-of : OneOutcome net.Net.guard_of.Kinds.ps net.Net.guard_of.Kinds.r net.Net.guard_of.Reads.Pre net.Net.guard_of.Reads.Post
net-guard-of κs a pre x y v w p q = (by-equation p q, refl)

pub net-next-of : OneOutcome net.Net.next_of.Kinds.ps net.Net.next_of.Kinds.r net.Net.next_of.Reads.Pre net.Net.next_of.Reads.Post
net-next-of κs a pre x y v w p q = (by-equation p q, refl)

pub net-first-with : OneOutcome net.Net.first_with.Kinds.ps net.Net.first_with.Kinds.r net.Net.first_with.Reads.Pre net.Net.first_with.Reads.Post
net-first-with κs a pre x y v w p q = (by-equation p q, refl)

pub clear_of : OneOutcome net.clear_of.Kinds.ps net.clear_of.Kinds.r net.clear_of.Reads.Pre net.clear_of.Reads.Post
clear_of κs a pre x y v w p q = (ap ℓ (by-equation p.exactly q.exactly), refl)

pub note_net : OneOutcome net.note_net.Kinds.ps net.note_net.Kinds.r net.note_net.Reads.Pre net.note_net.Reads.Post
note_net κs a pre x y v w p q = (refl, λ i. (tt, (one-net _ _ p q i, tt)))
