pub mod Lives
pub mod Unanswered
pub mod Outlasting
