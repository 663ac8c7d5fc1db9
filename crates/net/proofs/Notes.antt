-- Words that are noted one after another, the others staying, and what a net of such words has.
use Prim.Native.Nat.{ℕ, ◌+◌, ◌<◌, ◌≤◌}
use native.Mathlib.Omega.{arith}
use mathlib.Core.Path.{◌≡◌, refl, ◌∙◌}
use mathlib.Core.List.{List}
use lib.ListN.{length, get_or, set, length-set}
use lib.Seq.{get_or-set_same, get_or-set_other}
use borrow.Author.Count.{below_more}
use Rattle.paper.specs.Limits.{most_rows}
use Rattle.paper.proofs.Tests.{by-lt}
use Rattle.rows.specs.Inside.Tree.{parent_of, guard_of}
use Rattle.net.specs.declared.Net.{Net}
use Rattle.net.specs.Inside.Net.{Parents, Words, IsNet, Noted}

-- before any is noted
pub words_none : (#L : ℕ) (f : ℕ → ℕ) (#A : ℕ) {old : List ℕ} → length old ≡ #L → Words #L f #A #A old old
words_none #L f #A e = record { size = e; given = λ i a h. absurd (omega arith); before = λ i h. refl; behind = λ i h. refl }

module _ {#L : ℕ} {f : ℕ → ℕ} {#A : ℕ} {old words : List ℕ} where
  -- one word more
  pub words_more : (#M word : ℕ) → Words #L f #A #M old words → #A ≤ #M → #M < #L → word ≡ f #M → Words #L f #A (#M + 1) old (set words #M word)
  words_more #M word w from h e = record {
    size = length-set words #M word ∙ w.size;
    given = λ i a b. below_more (λ (j : ℕ). #A ≤ j → get_or (set words #M word) j 0 ≡ f j) #M
        (λ j c d. get_or-set_other words #M j word 0 (λ q. omega arith) ∙ w.given j d c)
        (λ _. get_or-set_same words #M word 0 (let z = w.size in omega arith) ∙ e) i b a;
    before = λ i c. get_or-set_other words #M i word 0 (λ q. omega arith) ∙ w.before i c;
    behind = λ i c. get_or-set_other words #M i word 0 (λ q. omega arith) ∙ w.behind i (omega arith);
  }

  -- where none from #M on is noted, none is
  pub words_to : (#M m : ℕ) → Words #L f #A m old words → #M ≤ m → ((i : ℕ) → #M ≤ i → i < m → i < #A) → Words #L f #A #M old words
  words_to #M m w h none = record {
    size = w.size;
    given = λ i a b. w.given i a (omega arith);
    before = w.before;
    behind = λ i c. by-lt i m (λ l. w.before i (none i c l)) (λ l. w.behind i l);
  }

-- row 0 has no guard around it
pub guard-first : (rows : List ℕ) → 0 ≡ guard_of rows 0
unfolding guard_of
guard-first rows = refl

pub as_parents : {rows old words : List ℕ} {#N : ℕ} → Words most_rows (parent_of rows) 1 #N old words → Parents rows #N words
as_parents w = record { size = w.size; parents = λ i a b. w.given i (omega arith) b }

pub is_net : {rows chosen : List ℕ} {#N : ℕ} {old net : Net} → Noted rows chosen #N old net → IsNet rows chosen #N net
is_net n = record {
  parents = as_parents n.parents;
  guards = record { size = n.guards.size; guards = λ i h. n.guards.given i (omega arith) (omega arith) };
  nexts = λ k h. n.nexts.given k (omega arith) h;
  firsts = λ v h. n.firsts.given v (omega arith) h;
}
