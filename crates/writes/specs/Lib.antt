pub mod SequencerWritten
pub mod WrittenRegister
