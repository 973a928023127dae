pub mod Fifos
