-- What the listing program prints. Read Listing.
pub mod Listing
