pub mod OverWords  -- the string calls over an image
