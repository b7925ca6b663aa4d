-- What the command for members is told beside the scale's calls.
pub mod Answers
pub mod Clusters
