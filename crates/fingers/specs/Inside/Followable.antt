-- What following "before" asks of its caller.
use Rattle.std.specs.Prelude.{ℕ, ◌+◌, ◌<◌, ◌≤◌, List, ◌≡◌, length, get_or}
use Rattle.std.proofs.Props.{props}
use Rattle.paper.specs.Limits.{most_reads, most_variables}
use Rattle.rows.specs.Rows.{kind_of, arg_of, from_of}
use Rattle.net.specs.declared.Net.{Net}
use Rattle.net.specs.Inside.Net.{Chosen, IsNet}
use Rattle.net.specs.Inside.OneProof.{Chosen-prop, IsNet-prop}

-- Chosen labels of nested rows with their net, and stars whose reads are there and are variables.
pub record Followable (rows reads chosen : List ℕ) (net : Net) (#N : ℕ) : Type 0 where
  pub choice : Chosen rows chosen #N
  pub netted : IsNet rows chosen #N net
  pub read : (s : ℕ) → s < #N → kind_of rows s ≡ 1 → from_of rows s + arg_of rows s ≤ length reads
  pub few : length reads ≤ most_reads
  pub variables : (r : ℕ) → r < length reads → get_or reads r 0 < most_variables
  pub guarded : (a : ℕ) → a < #N → 4 < kind_of rows a → kind_of rows (a + 1) ≡ 1

-- it has one proof at most, as a fact that a value keeps must have
pub Followable-prop : {rows reads chosen : List ℕ} {net : Net} {#N : ℕ} → IsProp (Followable rows reads chosen net #N)
Followable-prop {rows} {reads} {chosen} {net} {#N} x y =
    let read_prop : IsProp ((s : ℕ) → s < #N → kind_of rows s ≡ 1 → from_of rows s + arg_of rows s ≤ length reads) = hlevel props in
    let few_prop : IsProp (length reads ≤ most_reads) = hlevel props in
    let variables_prop : IsProp ((r : ℕ) → r < length reads → get_or reads r 0 < most_variables) = hlevel props in
    let guarded_prop : IsProp ((a : ℕ) → a < #N → 4 < kind_of rows a → kind_of rows (a + 1) ≡ 1) = hlevel props in
    λ i. record {
      choice = Chosen-prop rows chosen #N x.choice y.choice i;
      netted = IsNet-prop rows chosen #N net x.netted y.netted i;
      read = read_prop x.read y.read i;
      few = few_prop x.few y.few i;
      variables = variables_prop x.variables y.variables i;
      guarded = guarded_prop x.guarded y.guarded i;
    }
