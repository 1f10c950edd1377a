mod KindLemmas
pub mod LawLemmas
pub mod ReadyLemmas
pub mod Members
pub mod WishLemmas
