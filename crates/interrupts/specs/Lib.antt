pub mod Latching
