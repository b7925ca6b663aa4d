-- The files of a volume, and what one change of the volume does to them. Read Files.
pub mod Files
pub mod Aids
