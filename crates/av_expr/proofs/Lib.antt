pub mod FractionLemmas
mod ValueLemmas
pub mod EvalLemmas
mod RingLemmas
pub mod ValueLaws
mod VarLemmas
mod AtomLemmas
mod MarkLemmas
mod ReadLemmas
mod PartLaws
mod AtomLaws
pub mod GrammarLaws
pub mod TreeLemmas
mod ParseLemmas
pub mod TotalLaws
