-- What holds of the calls over a row.
pub mod Bytes
pub mod Same
pub mod SameCalls
pub mod Through
pub mod OpenView
pub mod OpenThrough
pub mod Alike
