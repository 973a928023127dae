-- The register map in both directions: one table (crates/rules/specs/Map.antt), read on the side that the access asks.
use Rattle.std.specs.Prelude.{Option}
use Rattle.rules.specs.declared.map.Register.{Register}
use Rattle.std.specs.Prelude.{ℕ, Bool, true, false}
use Rattle.rules.specs.Map.{read_at, written_at}

-- what a write, or a read, finds at an offset
abbrev pub mapped_at : Bool → ℕ → Option Register
mapped_at true offset = written_at offset
mapped_at false offset = read_at offset
