mod RowLemmas
pub mod LineLemmas
pub mod MarkLemmas
pub mod FrameLemmas
pub mod FrameListLemmas
mod ReadLemmas
mod MarkReads
mod HeadLemmas
mod WriteLemmas
pub mod LawLemmas
pub mod DecidedLemmas
pub mod HeadLaws
mod WrittenLemmas
pub mod FrameRuns
pub mod Examples
