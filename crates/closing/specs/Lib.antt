-- Files closed: close.
pub mod Close
