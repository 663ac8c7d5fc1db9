-- The reported order, over the indices of the chosen labels (document 01, "Reported order"). `prior` is "before" in terms of rows.
use Rattle.std.specs.Prelude.{ℕ, List, map, ◌≡◌, eqb, length, get_or}
use Rattle.paper.specs.Order.{greedy_by}
use Rattle.entries.specs.Front.{in_front}
use Rattle.paper.specs.Lists.{up_to}
use Rattle.net.specs.Inside.Prior.{prior}

-- the indices in the reported order: all of them exactly if there is an order
unfoldable pub ordered : List ℕ → List ℕ → List ℕ → List ℕ
ordered rows reads chosen = greedy_by (prior rows reads chosen) eqb (length chosen) (up_to (length chosen))

-- the labels of indices
abbrev pub labelled : List ℕ → List ℕ → List ℕ
labelled chosen ks = map (λ k. get_or chosen k 0) ks

-- What filling `out` with the reported order leaves: how many are placed, and their labels in front of what was there.
pub record OrderFilled (rows reads chosen out₀ out : List ℕ) (count : ℕ) : Type 0 where
  pub number : count ≡ length (ordered rows reads chosen)
  pub filled : out ≡ in_front (labelled chosen (ordered rows reads chosen)) out₀
