pub mod Filters
pub mod Numbers
pub mod NumberSearches
pub mod ReadPlaces
pub mod ChosenReads
pub mod ReadWalks
