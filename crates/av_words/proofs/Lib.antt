mod WordRoleLemmas
mod WordValueLemmas
mod WordCheckLemmas
mod CommandPartLemmas
mod WholeLineLemmas
mod Decisions
mod FaultDecisions
mod Existence
pub mod WordLawLemmas
pub mod CommandFacts
