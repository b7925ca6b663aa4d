-- The laws of the definitions in specs/.
pub mod Row
pub mod Searches
pub mod Seek
pub mod Alike
pub mod Stores
pub mod SeekAlike
pub mod Bytes
