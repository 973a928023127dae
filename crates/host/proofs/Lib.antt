pub mod OverImages
pub mod LostRound  -- lost_round_image
