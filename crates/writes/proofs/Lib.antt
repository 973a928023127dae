pub mod Arms
pub mod LinesAndIdentity
pub mod RegisterStores
pub mod SequencerWrites
pub mod StackStores
pub mod StoringRegisters
