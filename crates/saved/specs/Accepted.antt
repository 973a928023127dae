-- WHICH IMAGES ARE ACCEPTED: a definition that computes, each clause beside its sentence.
use Rattle.std.specs.Prelude.{ℕ, Bool, true, false, ◌&&◌, List, [], ◌∷◌, eqb, leb, ltb, length, get_or}
use Rattle.rules.specs.Step.{step_event}
use Rattle.rules.specs.declared.records.Event.TheVariants.{Ticks}
use Rattle.image.specs.Image.{image_of, state_at}
use Rattle.image.specs.Layout.{host_count_place, identity_place, image_size, offset_place, pointer_place, quiet_place, scsi_count_place}

-- the same bytes
unfoldable pub same_bytes : List ℕ → List ℕ → Bool
same_bytes [] [] = true
same_bytes [] (y ∷ n) = false
same_bytes (x ∷ m) [] = false
same_bytes (x ∷ m) (y ∷ n) = eqb x y && same_bytes m n

-- "the length is right"
abbrev pub length_right : List ℕ → Bool
length_right m = eqb (length m) image_size

-- "FIFO counts at most 128 and 8, offset and quiet count at most 8"
unfoldable pub counts_fit : List ℕ → Bool
counts_fit m =
    leb (get_or m host_count_place 0) 128 && leb (get_or m scsi_count_place 0) 8 && leb (get_or m offset_place 0) 8
    && leb (get_or m quiet_place 0) 8

-- "every unused bit 0, every byte past a count 0": the chip read from the bytes has the same bytes again, and of the two numbers of
-- five bits the upper three are 0
unfoldable pub unused_clear : List ℕ → Bool
unused_clear m =
    same_bytes m (image_of (state_at m)) && ltb (get_or m identity_place 0) 32 && ltb (get_or m pointer_place 0) 32

-- "and 0 ticks would not change it"
unfoldable pub ticks_leave : List ℕ → Bool
ticks_leave m = same_bytes m (image_of (step_event (state_at m) (Ticks 0)).state)

-- ACCEPTED
unfoldable pub accepted : List ℕ → Bool
accepted m = length_right m && counts_fit m && unused_clear m && ticks_leave m
