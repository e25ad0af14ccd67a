pub mod ReadBack
pub mod ReadBackLines
pub mod WrittenTexts
