-- A refusal writes nothing: for each public function that lends and can refuse, whatever refusal its contract allows, every lent word
-- is left as it was.
use Rattle.paper.specs.Outcome.{RefusalLeaves}
use Rattle.paper.specs.Refusals.{IsRefusal}
use Rattle.strategy.specs.Judge.{order_in}
use Rattle.strategy.proofs.RefusalLeaves.{as_it_was}
use Rattle.input.specs.Bytes.{words_of, order_left_of}
use Rattle.input.proofs.judging as judging

pub judge-bytes :
    RefusalLeaves judging.judge_bytes.Kinds.ps judging.judge_bytes.Kinds.r (λ κs. IsRefusal) (λ κs a. (tt, (tt, (a.1.1.0.now, tt))))
    judging.judge_bytes.Reads.Pre judging.judge_bytes.Reads.Post
unfolding order_left_of
judge-bytes κs a pre x v p h = λ i. (tt, (tt, (as_it_was _ (order_in (words_of a.0.now)) p.answered p.left_so h i, tt)))
