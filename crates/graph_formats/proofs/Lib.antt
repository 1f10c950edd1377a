mod DemandLemmas
mod WalkLemmas
mod PartLemmas
pub mod LawLemmas
mod SearchLemmas
pub mod TotalLemmas
mod ChoiceLemmas
mod ListingLemmas
