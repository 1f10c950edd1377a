pub mod Chunks
mod PageLemmas
mod RowLemmas
mod WindowLemmas
mod GridLemmas
mod PlanesLemmas
pub mod PictureLemmas
mod PaintLemmas
mod BandLemmas
mod QueueLemmas
mod EachLemmas
