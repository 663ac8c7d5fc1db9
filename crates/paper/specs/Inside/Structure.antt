-- What a formula's branches have, worked out over its structure: the forms that code follows row by row.
-- Each is proved equal to what the definitions over branches say (specs/Statements.antt, 7).
pub mod Fold
pub mod Cover
pub mod KeyCount
pub mod Kept
pub mod Share
