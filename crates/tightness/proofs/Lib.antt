-- The one module of the proofs that are not of a function.
mod Narrowest
