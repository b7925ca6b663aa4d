-- The bytes of a file along its chain, in an image: where they lie, what is read, what is stored.
pub mod Aids
