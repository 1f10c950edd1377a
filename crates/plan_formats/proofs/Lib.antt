mod PadLemmas
mod BelowLemmas
pub mod PathLemmas
