pub mod Prior
pub mod Net
pub mod OneProof
