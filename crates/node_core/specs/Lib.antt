pub mod Filters
pub mod FilterLaws
pub mod Kinds
pub mod Shaping
pub mod Laws
pub mod Wishing
