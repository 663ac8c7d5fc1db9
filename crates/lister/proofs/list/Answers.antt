-- The words of the bytes stand in front, they are judged, and what is listed is the accepted table or the refusal.
use Rattle.input.proofs.BytePairs.{words-front}
use Rattle.lister.proofs.Asked.{so-judged, so-ordered, listing-so}
use Rattle.lister.proofs.list.Goals as goal

pub invariant_of-table : goal.invariant_of-table
invariant_of-table g c =
    let are = words-front c.fill_words-count.ensures in
    record { judged_so = so-judged c.judge_bytes-judged.ensures are c.in-Ok.is }

pub invariant_of-listed : goal.invariant_of-listed
invariant_of-listed g c =
    let are = words-front c.fill_words-count.ensures in
    record { ordered = rw c.basis-basis.ensures.table (so-ordered c.judge_bytes-judged.ensures are c.in-Ok.is) }

pub write_listing-requires : goal.write_listing-requires
write_listing-requires g c =
    let are = words-front c.fill_words-count.ensures in
    rw c.basis-basis.ensures.table (listing-so c.judge_bytes-judged.ensures are c.in-Ok.is)

pub write_listing-requires-in-Err : goal.write_listing-requires-in-Err
write_listing-requires-in-Err g c =
    let are = words-front c.fill_words-count.ensures in
    listing-so c.judge_bytes-judged.ensures are c.in-Err.is
