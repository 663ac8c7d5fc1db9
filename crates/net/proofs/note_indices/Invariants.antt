-- The chains of chosen labels are noted from the last label down: those from index k on are linked.
use Rattle.net.proofs.Chains.{Linked}
use Rattle.net.proofs.note_indices.Given as goal

abbrev pub invariant-loop-k : goal.invariant-loop-k
invariant-loop-k l = Linked l.c.rows.now l.c.chosen.now l.initial.nexts l.k l.nexts l.firsts
