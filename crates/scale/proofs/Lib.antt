-- What the proofs rest on: the laws of the definitions in specs/, in the same order.
pub mod Laws
