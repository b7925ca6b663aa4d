-- Chains of clusters through a table, and the bytes along them. In reading order.
pub mod Lists
pub mod Sums
pub mod Sizes
pub mod Values
pub mod Chain
pub mod Free
pub mod Content
pub mod Write
pub mod Verdict
pub mod Aids
