pub mod Escape
pub mod Svg
