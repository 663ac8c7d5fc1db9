pub mod Allowed
pub mod Demands
pub mod Cases
pub mod SectionCases
pub mod RowCases
pub mod RequestCases
pub mod Reasons
