-- What the lists' contracts cite.
pub mod Lists
pub mod Faces
