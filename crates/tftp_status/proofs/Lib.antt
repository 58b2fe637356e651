pub mod CountsAfter
pub mod Keeping
pub mod Texts
