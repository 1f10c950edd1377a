pub mod Sizes
pub mod FrameTexts
pub mod Heads
pub mod Files
pub mod Pieces
pub mod Reading
pub mod Writing
