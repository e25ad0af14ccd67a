mod Documents
mod ReadBack
mod Written
