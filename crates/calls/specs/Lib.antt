-- What the calls have in common. Read Outcome, Numbers, Answers and Refusals; Ready, an aid, is what every call does first.
pub mod Outcome
pub mod Numbers
pub mod Answers
pub mod Refusals
pub mod Aids
