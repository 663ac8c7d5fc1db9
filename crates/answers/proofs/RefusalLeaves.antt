-- A refusal writes nothing: for each public function that lends and can refuse, whatever refusal its contract allows, every lent word
-- or byte is left as it was.
use Rattle.paper.specs.Outcome.{RefusalLeaves}
use Rattle.paper.specs.Refusals.{IsRefusal}
use Rattle.filling.proofs.RefusalLeaves.{as_it_was}
use Rattle.answers.proofs.judged.AcceptedTable as table

pub acceptedtable-transition-of :
    RefusalLeaves table.transition_of.Kinds.ps table.transition_of.Kinds.r (λ κs. IsRefusal) (λ κs a. (tt, (tt, (a.1.1.0.now, tt))))
    table.transition_of.Reads.Pre table.transition_of.Reads.Post
acceptedtable-transition-of κs a pre x v p h = λ i. (tt, (tt, (as_it_was _ p h i, tt)))

pub acceptedtable-assignments-of :
    RefusalLeaves table.assignments_of.Kinds.ps table.assignments_of.Kinds.r (λ κs. IsRefusal) (λ κs a. (tt, (tt, (tt, (a.1.1.1.0.now, tt)))))
    table.assignments_of.Reads.Pre table.assignments_of.Reads.Post
acceptedtable-assignments-of κs a pre x v p h = λ i. (tt, (tt, (tt, (as_it_was _ p h i, tt))))
