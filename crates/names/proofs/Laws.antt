-- The laws of the definitions in specs/.
pub mod Tests
pub mod Alphabet
pub mod Parts
pub mod Code
pub mod Meaning
pub mod Proper
pub mod Same
pub mod Given
