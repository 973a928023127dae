pub mod Falling
pub mod Raising
pub mod StatusAndLatchBytes
pub mod Steady
pub mod Idle
