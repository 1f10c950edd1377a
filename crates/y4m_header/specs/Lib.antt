pub mod Params
pub mod Said
pub mod HeaderTexts
pub mod HeaderLaws
pub mod Parts
pub mod Walk
pub mod Front
