-- What the effects of the edges ask of the data path.
use Rattle.std.specs.Prelude.{◌<◌, ◌≡◌, true, length}
use Rattle.rules.specs.State.{Transfer}
use Rattle.edges.specs.declared.edges.Edges.{Edges}

-- a REQ within the limit is below 8, and a byte that is stored has a place
pub record Room (g : Edges) (t : Transfer) : Type 0 where
  pub within : g.within ≡ true → t.offset < 8
  pub stored : g.stored ≡ true → length t.scsi < 8
