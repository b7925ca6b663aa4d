-- The laws of the definitions in specs/.
pub mod Sectors
pub mod Worked
pub mod Scene
