-- For each public function, any two outcomes that its contract allows are equal: the answer, and every lent word afterwards.
use Rattle.paper.specs.Outcome.{OneOutcome}
use Rattle.paper.proofs.Outcome.{by-equation}
use Rattle.input.proofs.words as words
use Rattle.input.proofs.judging as judging

pub fill-words : OneOutcome words.fill_words.Kinds.ps words.fill_words.Kinds.r words.fill_words.Reads.Pre words.fill_words.Reads.Post
fill-words κs a pre x y v w p q = (by-equation p.many q.many, λ i. (tt, (by-equation p.stand q.stand i, tt)))

pub judge-bytes : OneOutcome judging.judge_bytes.Kinds.ps judging.judge_bytes.Kinds.r judging.judge_bytes.Reads.Pre judging.judge_bytes.Reads.Post
judge-bytes κs a pre x y v w p q = (by-equation p.answered q.answered, λ i. (tt, (tt, (by-equation p.left_so q.left_so i, tt))))
