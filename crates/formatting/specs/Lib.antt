-- A new volume: format.
pub mod Format
