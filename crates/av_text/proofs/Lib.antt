pub mod Runs
pub mod Places
pub mod PartLaws
pub mod PieceLemmas
pub mod TokenLemmas
pub mod ReadingLemmas
pub mod ArgLemmas
pub mod TotalLemmas
pub mod NumberLemmas
mod TimeLemmas
mod SlowLemmas
