pub mod OfFamilies
pub mod OfSubjects
pub mod OfTogether
pub mod OfRegisters
pub mod OfStock
