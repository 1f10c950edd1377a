mod ColonLemmas
mod ValueLemmas
mod WalkLemmas
mod PrefixLemmas
mod RatioLemmas
mod SaidLemmas
mod MeansLemmas
mod DecimalLemmas
pub mod LawLemmas
pub mod WrittenLemmas
mod FrontValues
mod FrontWalk
mod FrontLemmas
pub mod FrontDecided
pub mod KnownLemmas
