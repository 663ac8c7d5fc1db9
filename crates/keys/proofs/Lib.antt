pub mod LeafLabels
pub mod KeyNumbers
pub mod KeysUnder
pub mod OneOutcome
