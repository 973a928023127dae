use Prim.Native.Nat.{◌<◌}
use borrow.Author.Rules.{rules}
use mathlib.Core.Path.{◌≡◌, sym, subst}
use Rattle.rules.specs.Chips.{view}
use Rattle.rules.specs.Ranges.{InBytes}
use Rattle.image.specs.Image.{image_of, IsImage}
use Rattle.image.proofs.ReadBack.{is_image}
use Rattle.chips.proofs.Stored.{all_stored, in_bytes, registers_fit, counts_fit_lem}
use Rattle.chips.proofs.store.Goals as goal

pub put_registers-requires : goal.put_registers-requires
put_registers-requires c = registers_fit c.args.c c.requires

pub put_counts-requires : goal.put_counts-requires
put_counts-requires c = counts_fit_lem c.args.c c.requires

pub returns : goal.returns
returns c =
    let x = c.args.c in
    let scsi = c.bytes_put.ensures in
    let stack = c.bytes_put-2.ensures in
    let host = c.bytes_put-3.ensures in
    let last : x.transfer.last < 256 = search rules in
    let counts = c.put_counts.ensures in
    let sequencer = c.sequencer_placed.ensures in
    let numbers = c.put_numbers.ensures in
    let flags = c.put_flags.ensures in
    let registers = c.put_registers.ensures in
    let image : c.bytes_put-3.new.m ≡ image_of (view x) =
    all_stored x c.requires c.args.m.now registers.0 flags.0 numbers sequencer.0 counts scsi stack host
    in
    let bytes : InBytes (view x) =
    in_bytes x c.requires registers.1 flags.1 last sequencer.1 scsi.bytes stack.bytes host.bytes
    in
    record { packed = image; sound = subst IsImage (sym image) (is_image (view x) c.requires.range bytes) }
