pub mod WholeLemmas
pub mod WordLemmas
mod OptionLemmas
pub mod LimitLemmas
pub mod FramewiseLemmas
mod PaintFrameLemmas
mod MapFrameLemmas
