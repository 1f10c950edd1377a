mod ListLemmas
mod OrderLemmas
mod BuiltOrder
mod RowLemmas
mod ReachLemmas
mod ArrangeLemmas
mod BindLemmas
mod CalledLemmas
pub mod BoundLemmas
mod GraphLemmas
mod CountLemmas
mod TableLemmas
mod LinkLemmas
pub mod LawfulLemmas
pub mod PathLemmas
mod OriginLemmas
mod ScanLemmas
mod JoinLemmas
mod TurnLemmas
mod OpenLemmas
mod Decisions
mod FaultDecisions
mod CycleDecisions
pub mod OneOfBoth
pub mod FewLinks
