pub mod Pastes
pub mod Phases
pub mod ReadBack
pub mod AtPlaces
pub mod SequencerBytes
