-- What runs of calls do to a sound volume. Read World, Meant and History, with the crate changes' Files; then Promises, Tare
-- and Handles, which state what is proved, Keeps, which has it all, and ListingCase, a worked run. The aids are for the
-- proofs; proofs/Laws/WrongRefused and WrongHandles show of some wrong libraries which promises they break.
pub mod World
pub mod Meant
pub mod History
pub mod Promises
pub mod Tare
pub mod Handles
pub mod Keeps
pub mod ListingCase
pub mod Aids
