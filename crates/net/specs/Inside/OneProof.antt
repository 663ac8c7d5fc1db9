-- That rows are one tree, labels chosen of theirs, and a net theirs, has one proof at most, as a fact that a value keeps must have.
use Rattle.std.specs.Prelude.{ℕ, ◌+◌, ◌*◌, ◌<◌, ◌≤◌, ◌≡◌, List, length, get_or}
use Rattle.std.proofs.Props.{props}
use Rattle.paper.specs.Limits.{most_candidates, most_rows, most_variables}
use Rattle.rows.specs.Rows.{kind_of, arg_of, end_of}
use Rattle.rows.specs.Inside.Looks.{Nested}
use Rattle.rows.specs.Inside.Tree.{parent_of, guard_of}
use Rattle.net.specs.declared.Net.{Net}
use Rattle.net.specs.Inside.Net.{Tree, Chosen, Parents, Guards, IsNet, first_with, next_with}

Nested-prop : (rows : List ℕ) (#N : ℕ) → IsProp (Nested rows #N)
Nested-prop rows #N x y =
    let room_prop : IsProp (4 * #N ≤ length rows) = hlevel props in
    let few_prop : IsProp (#N ≤ most_rows) = hlevel props in
    let rises_prop : IsProp ((i : ℕ) → i < #N → i < end_of rows i) = hlevel props in
    let within_prop : IsProp ((i : ℕ) → i < #N → end_of rows i ≤ #N) = hlevel props in
    let nested_prop : IsProp ((i j : ℕ) → i < j → j < end_of rows i → end_of rows i ≤ #N → end_of rows j ≤ end_of rows i) = hlevel props in
    λ i. record {
      room = room_prop x.room y.room i;
      few = few_prop x.few y.few i;
      rises = rises_prop x.rises y.rises i;
      within = within_prop x.within y.within i;
      nested = nested_prop x.nested y.nested i;
    }

Tree-prop : (rows : List ℕ) (#N : ℕ) → IsProp (Tree rows #N)
Tree-prop rows #N x y =
    let whole_prop : IsProp (end_of rows 0 ≡ #N) = hlevel props in
    let bare_prop : IsProp ((i : ℕ) → i < #N → 4 < kind_of rows i → end_of rows (i + 1) ≡ i + 2) = hlevel props in
    let ended_prop : IsProp ((i : ℕ) → i < #N → kind_of rows i ≡ 2 → end_of rows i ≡ i + 2) = hlevel props in
    let starred_prop : IsProp ((i : ℕ) → i < #N → kind_of rows i ≡ 2 → kind_of rows (i + 1) ≡ 1) = hlevel props in
    λ i. record {
      nested = Nested-prop rows #N x.nested y.nested i;
      whole = whole_prop x.whole y.whole i;
      bare = bare_prop x.bare y.bare i;
      ended = ended_prop x.ended y.ended i;
      starred = starred_prop x.starred y.starred i;
    }

pub Chosen-prop : (rows chosen : List ℕ) (#N : ℕ) → IsProp (Chosen rows chosen #N)
Chosen-prop rows chosen #N x y =
    let few_prop : IsProp (length chosen ≤ most_candidates) = hlevel props in
    let below_prop : IsProp ((k : ℕ) → k < length chosen → get_or chosen k 0 + 1 < #N) = hlevel props in
    let ascend_prop : IsProp ((j k : ℕ) → j < k → k < length chosen → get_or chosen j 0 < get_or chosen k 0) = hlevel props in
    let candidates_prop : IsProp ((k : ℕ) → k < length chosen → kind_of rows (get_or chosen k 0) ≡ 2) = hlevel props in
    let variables_prop : IsProp ((k : ℕ) → k < length chosen → arg_of rows (get_or chosen k 0) < most_variables) = hlevel props in
    λ i. record {
      tree = Tree-prop rows #N x.tree y.tree i;
      few = few_prop x.few y.few i;
      below = below_prop x.below y.below i;
      ascend = ascend_prop x.ascend y.ascend i;
      candidates = candidates_prop x.candidates y.candidates i;
      variables = variables_prop x.variables y.variables i;
    }

Parents-prop : (rows : List ℕ) (#N : ℕ) (words : List ℕ) → IsProp (Parents rows #N words)
Parents-prop rows #N words x y =
    let size_prop : IsProp (length words ≡ most_rows) = hlevel props in
    let parents_prop : IsProp ((i : ℕ) → 0 < i → i < #N → get_or words i 0 ≡ parent_of rows i) = hlevel props in
    λ i. record { size = size_prop x.size y.size i; parents = parents_prop x.parents y.parents i }

Guards-prop : (rows : List ℕ) (#N : ℕ) (words : List ℕ) → IsProp (Guards rows #N words)
Guards-prop rows #N words x y =
    let size_prop : IsProp (length words ≡ most_rows) = hlevel props in
    let guards_prop : IsProp ((i : ℕ) → i < #N → get_or words i 0 ≡ guard_of rows i) = hlevel props in
    λ i. record { size = size_prop x.size y.size i; guards = guards_prop x.guards y.guards i }

pub IsNet-prop : (rows chosen : List ℕ) (#N : ℕ) (net : Net) → IsProp (IsNet rows chosen #N net)
IsNet-prop rows chosen #N net x y =
    let nexts_prop : IsProp ((k : ℕ) → k < length chosen → get_or net.nexts k 0 ≡ next_with rows chosen k) = hlevel props in
    let firsts_prop : IsProp ((v : ℕ) → v < most_variables → get_or net.firsts v 0 ≡ first_with rows chosen v 0) = hlevel props in
    λ i. record {
      parents = Parents-prop rows #N net.parents x.parents y.parents i;
      guards = Guards-prop rows #N net.guards x.guards y.guards i;
      nexts = nexts_prop x.nexts y.nexts i;
      firsts = firsts_prop x.firsts y.firsts i;
    }
