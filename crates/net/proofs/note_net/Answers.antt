-- The guards go by the rows over rows.
use Rattle.net.proofs.Notes.{as_parents}
use Rattle.net.proofs.note_net.Goals as goal

pub note_guards-requires : goal.note_guards-requires
note_guards-requires c = as_parents c.note_parents.ensures
