-- Each turn reads at least one byte, or ends.
use Rattle.std.proofs.Common.{length, ◌-◌, ◌≡◌, ◌≤◌}
use Rattle.paper.specs.Limits.{most_bytes}
use Rattle.lister.proofs.reading.read_input.Given as goal

abbrev pub invariant-loop-count : goal.invariant-loop-count
invariant-loop-count g l = (length l.bytes ≡ most_bytes) × (l.count ≤ most_bytes)

abbrev pub decreases-loop-count : goal.decreases-loop-count
decreases-loop-count g l = most_bytes - l.count
