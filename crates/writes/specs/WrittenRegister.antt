-- What a write finds.
use Rattle.std.specs.Prelude.{Some}
use Rattle.std.specs.Prelude.{◌≡◌}
use Rattle.rules.specs.Map.{written_at, offset_of}
use Rattle.rules.specs.declared.map.Register.{Register}

-- the register is the one that a write finds at its offset
abbrev pub Written : Register → Type 0
Written r = written_at (offset_of r) ≡ Some r
