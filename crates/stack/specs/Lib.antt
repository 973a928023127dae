pub mod Accesses
pub mod Apart
pub mod Box
