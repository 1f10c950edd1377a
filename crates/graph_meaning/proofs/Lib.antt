pub mod Table
pub mod LawProofs
