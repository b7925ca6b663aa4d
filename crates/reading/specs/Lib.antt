-- Bytes taken out of files: read.
pub mod Read
