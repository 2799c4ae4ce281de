pub mod Spelled
pub mod Numbered
pub mod Named
pub mod Lists
pub mod Exchanges
pub mod Answering
