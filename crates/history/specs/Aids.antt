-- What only the proofs speak of.
pub mod Ours
pub mod Came
pub mod WrongLibraries
pub mod WrongHandles
