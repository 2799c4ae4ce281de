pub mod PathLaws
pub mod ListingLaws
pub mod CallLaws
