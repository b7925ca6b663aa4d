-- The laws of the definitions in specs/.
pub mod Answers
pub mod Clusters
