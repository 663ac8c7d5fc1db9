-- One line of a refusal, or a part of an accepted table's listing.
use Prim.Native.Nat.{◌<◌}
use mathlib.Core.Path.{subst}
use Rattle.lister.specs.Inside.Steps.{pieces}
use Rattle.lister.specs.Inside.Whole.{judged_in}
use Rattle.lister.proofs.PartsPut.{refused-part}
use Rattle.lister.proofs.parts.put_part.Goals as goal

pub put_accepted_part-requires : goal.put_accepted_part-requires
put_accepted_part-requires c = (subst (λ x. c.args.next < pieces (judged_in x)) c.in-Ok.is c.requires.0, c.requires.1)

pub returns-in-Ok : goal.returns-in-Ok
returns-in-Ok c = rw c.in-Ok.is c.put_accepted_part.ensures

pub returns-in-Err : goal.returns-in-Err
returns-in-Err c =
    let e = c.in-Err.is in
    rw e (refused-part _ (subst (λ x. c.args.next < pieces (judged_in x)) e c.requires.0) (rw c.from.ensures at c.refused.ensures.put))
