-- The proofs of the lists.
pub mod Laws
pub mod Faces
