-- 17 where the number of bytes is odd; else their words are judged.
use Rattle.input.proofs.BytesJudged.{odd-judged, even-judged}
use Rattle.input.proofs.judging.judge_bytes.Goals as goal

pub returns-then-bytes-eq1 : goal.returns-then-bytes-eq1
returns-then-bytes-eq1 c = odd-judged c.if-bytes-eq1.true c.refusal_for.ensures

pub returns : goal.returns
returns c = even-judged c.requires.1 c.if-bytes-eq1.false c.judge_into.ensures
