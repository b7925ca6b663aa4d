-- Bytes of a file shown where they lie: view.
pub mod View
pub mod Aids
