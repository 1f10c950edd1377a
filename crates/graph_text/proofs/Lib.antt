mod LabelLemmas
mod PartLemmas
pub mod TotalLemmas
mod ArgCountLemmas
pub mod GraphLemmas
