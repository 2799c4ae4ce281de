mod FoundPairs
mod Listings
mod Places
