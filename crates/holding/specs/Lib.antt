-- What a file of a volume holds: its clusters and its bytes.
pub mod Holding
pub mod Aids
