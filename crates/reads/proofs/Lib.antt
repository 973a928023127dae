pub mod AnswerParts
pub mod LatchByte
pub mod Unread
pub mod Gates
