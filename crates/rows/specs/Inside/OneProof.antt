-- That a walk can go over rows has one proof at most, as a fact that a value keeps must have.
use Rattle.std.specs.Prelude.{ℕ, zero, suc, ◌+◌, ◌*◌, ◌<◌, ◌≤◌, true, ◌≡◌, List, length}
use Rattle.std.proofs.Props.{props}
use Rattle.paper.specs.Limits.{most_rows}
use Rattle.rows.specs.Rows.{kind_of, end_of, meets}
use Rattle.rows.specs.Inside.Walk.{expressions_at, first_at, Shaped, Stand}

pub Shaped-prop : (rows : List ℕ) (#N : ℕ) → IsProp (Shaped rows #N)
Shaped-prop rows #N x y =
    let room_prop : IsProp (4 * #N ≤ length rows) = hlevel props in
    let few_prop : IsProp (#N ≤ most_rows) = hlevel props in
    let known_prop : IsProp ((i : ℕ) → i < #N → kind_of rows i < 7) = hlevel props in
    let rises_prop : IsProp ((i : ℕ) → i < #N → i < end_of rows i) = hlevel props in
    let within_prop : IsProp ((i : ℕ) → i < #N → end_of rows i ≤ #N) = hlevel props in
    let under_prop : IsProp ((i : ℕ) → i < #N → meets rows (end_of rows i) (first_at rows i) (expressions_at rows i) ≡ true) = hlevel props in
    let joined_prop : IsProp ((i : ℕ) → i < #N → 2 < kind_of rows i → 0 < expressions_at rows i) = hlevel props in
    λ i. record {
      room = room_prop x.room y.room i;
      few = few_prop x.few y.few i;
      known = known_prop x.known y.known i;
      rises = rises_prop x.rises y.rises i;
      within = within_prop x.within y.within i;
      under = under_prop x.under y.under i;
      joined = joined_prop x.joined y.joined i;
    }

pub Stand-prop : (rows : List ℕ) (m i : ℕ) → IsProp (Stand rows m i)
Stand-prop rows zero i x y = λ j. tt
Stand-prop rows (suc m) i x y =
    let here_prop : IsProp (4 * i + 4 ≤ length rows) = hlevel props in
    λ j. (here_prop x.0 y.0 j, Stand-prop rows m (end_of rows i) x.1 y.1 j)
