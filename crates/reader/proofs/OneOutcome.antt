-- For each public function, any two outcomes that its contract allows are equal. None has a lent word that it could change.
use mathlib.Core.Path.{refl}
use Rattle.paper.specs.Outcome.{OneOutcome}
use Rattle.paper.proofs.Outcome.{by-equation}
use Rattle.reader.proofs as reader
use Rattle.reader.proofs.plain as plain

-- on a slice and a number
pub behind-rows : OneOutcome plain.behind_rows.Kinds.ps plain.behind_rows.Kinds.r plain.behind_rows.Reads.Pre plain.behind_rows.Reads.Post
behind-rows κs a pre x y v w p q = (by-equation p q, refl)

pub row-at : OneOutcome plain.row_at.Kinds.ps plain.row_at.Kinds.r plain.row_at.Reads.Pre plain.row_at.Reads.Post
row-at κs a pre x y v w p q = (by-equation p q, refl)

pub past-at : OneOutcome plain.past_at.Kinds.ps plain.past_at.Kinds.r plain.past_at.Reads.Pre plain.past_at.Reads.Post
past-at κs a pre x y v w p q = (by-equation p q, refl)

-- over a reader
pub reader-new : OneOutcome reader.Reader.new.Kinds.ps reader.Reader.new.Kinds.r reader.Reader.new.Reads.Pre reader.Reader.new.Reads.Post
reader-new κs a pre x y v w p q = (by-equation p q, refl)

pub reader-row : OneOutcome reader.Reader.row.Kinds.ps reader.Reader.row.Kinds.r reader.Reader.row.Reads.Pre reader.Reader.row.Reads.Post
reader-row κs a pre x y v w p q = (by-equation p q, refl)

pub reader-past : OneOutcome reader.Reader.past.Kinds.ps reader.Reader.past.Kinds.r reader.Reader.past.Reads.Pre reader.Reader.past.Reads.Post
reader-past κs a pre x y v w p q = (by-equation p q, refl)

pub row_of : OneOutcome reader.row_of.Kinds.ps reader.row_of.Kinds.r reader.row_of.Reads.Pre reader.row_of.Reads.Post
row_of κs a pre x y v w p q = (by-equation p q, refl)

pub row-past : OneOutcome reader.row_past.Kinds.ps reader.row_past.Kinds.r reader.row_past.Reads.Pre reader.row_past.Reads.Post
row-past κs a pre x y v w p q = (by-equation p q, refl)
