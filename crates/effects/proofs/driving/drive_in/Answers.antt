use native.Mathlib.Omega.{arith}
use Prim.Native.Nat.{ℕ, ◌<◌}
use mathlib.Core.Path.{refl}
use mathlib.Core.Bool.{false}
use Rattle.rules.specs.Events.{ticks_of}
use Rattle.rules.specs.Reads.{value_read}
use Rattle.rules.specs.Records.{lines_of, payload_of}
use Rattle.rules.specs.declared.records.Event.TheVariants.{WordRead}
use Rattle.effects.proofs.Driven.{leaves_driven}
use Rattle.effects.proofs.StatesOfA.{start, there, driven, flagged, acts_with}
use Rattle.effects.proofs.driving.drive_in.Goals as goal

byte_fits : (p : ℕ) → (lines_of p).byte < 256
unfolding lines_of
byte_fits p = omega arith

pub done-requires : goal.done-requires
done-requires c =
    let a = c.args in
    let p = payload_of a.high a.middle a.low in
    there (driven (leaves_driven c.requires (lines_of p) (byte_fits p)) (start c.requires) c.lines_put.ensures)

pub returns : goal.returns
unfolding value_read ticks_of
returns c =
    let a = c.args in
    let p = payload_of a.high a.middle a.low in
    let l = leaves_driven c.requires (lines_of p) (byte_fits p) in
    acts_with l refl refl (flagged (driven l (start c.requires) c.lines_put.ensures) false false WordRead c.done.ensures.m_after) c.done.ensures.value
