-- For each public function, any two outcomes that its contract allows are equal.
use mathlib.Core.Path.{refl}
use Rattle.paper.specs.Outcome.{OneOutcome}
use Rattle.paper.proofs.Outcome.{by-equation}
use Rattle.sections.proofs as sections

pub cursor-new : OneOutcome sections.Cursor.new.Kinds.ps sections.Cursor.new.Kinds.r sections.Cursor.new.Reads.Pre sections.Cursor.new.Reads.Post
cursor-new κs a pre x y v w p q = (by-equation p q, refl)

pub cursor-open : OneOutcome sections.Cursor.open.Kinds.ps sections.Cursor.open.Kinds.r sections.Cursor.open.Reads.Pre sections.Cursor.open.Reads.Post
cursor-open κs a pre x y v w p q = (by-equation p q, refl)

pub cursor-variables :
    OneOutcome sections.Cursor.variables.Kinds.ps sections.Cursor.variables.Kinds.r sections.Cursor.variables.Reads.Pre sections.Cursor.variables.Reads.Post
cursor-variables κs a pre x y v w p q = (by-equation p q, refl)

pub cursor-reads : OneOutcome sections.Cursor.reads.Kinds.ps sections.Cursor.reads.Kinds.r sections.Cursor.reads.Reads.Pre sections.Cursor.reads.Reads.Post
cursor-reads κs a pre x y v w p q = (by-equation p q, refl)

pub cursor_rows : OneOutcome sections.Cursor.rows.Kinds.ps sections.Cursor.rows.Kinds.r sections.Cursor.rows.Reads.Pre sections.Cursor.rows.Reads.Post
cursor_rows κs a pre x y v w p q = (by-equation p q, refl)

pub cursor-strategy :
    OneOutcome sections.Cursor.strategy.Kinds.ps sections.Cursor.strategy.Kinds.r sections.Cursor.strategy.Reads.Pre sections.Cursor.strategy.Reads.Post
cursor-strategy κs a pre x y v w p q = (by-equation p q, refl)

pub cursor-end : OneOutcome sections.Cursor.end.Kinds.ps sections.Cursor.end.Kinds.r sections.Cursor.end.Reads.Pre sections.Cursor.end.Reads.Post
cursor-end κs a pre x y v w p q = (by-equation p q, refl)
