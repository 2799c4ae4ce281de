pub mod Entries
pub mod AscendingNames
pub mod Shelves
pub mod Looks
pub mod Whole
pub mod OrderedLists
pub mod IndexPlaces
