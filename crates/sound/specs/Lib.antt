-- When a volume is sound. Read Files, Findings, Sound, Counts and Answer; Judged has the answer as a function.
pub mod Files
pub mod Findings
pub mod Sound
pub mod Counts
pub mod Numbers
pub mod Answer
pub mod Judged
pub mod Aids
