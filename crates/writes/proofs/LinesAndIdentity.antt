-- The lines and the turn of the ID bytes stored in an image.
use Prim.Native.Nat.{ℕ, ◌+◌, ◌%◌}
use mathlib.Core.Path.{◌≡◌, refl}
use mathlib.Core.List.{List}
use lib.ListN.{set, get_or}
use Rattle.rules.specs.State.{State}
use Rattle.rules.specs.declared.records.Lines.{Lines}
use Rattle.rules.specs.Changed.{with_lines, with_identity}
use Rattle.image.specs.Image.{image_of, upper_byte, control_byte}
use Rattle.image.specs.Layout.{control_place, data_place, identity_place, upper_place}

-- the three bytes of the lines
abbrev pub with_line_bytes : Lines → List ℕ → List ℕ
with_line_bytes l m = set (set (set m data_place l.byte) upper_place (upper_byte l)) control_place (control_byte l)

pub lines_image : (l : Lines) (s : State) → with_line_bytes l (image_of s) ≡ image_of (with_lines l s)
unfolding image_of
lines_image l s = refl

-- the turn of the ID bytes
pub identity_turned : (s : State) → set (image_of s) identity_place ((get_or (image_of s) identity_place 0 + 1) % 32) ≡ image_of (with_identity ((s.identity + 1) % 32) s)
unfolding image_of
identity_turned s = refl
