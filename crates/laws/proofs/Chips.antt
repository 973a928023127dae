-- A tidy chip value: its parts are those of the state that it stands for.
use mathlib.Core.Path.{◌≡◌, ap}
use lib.ListN.{length}
use Rattle.rules.specs.Chips.{path_of, view, chip_of}
use Rattle.rules.specs.Ranges.{Tidy}
use Rattle.rules.specs.declared.chip.DataPath.{DataPath}
use Rattle.rules.specs.declared.chip.Chip.{Chip}

module _ (c : Chip) (t : Tidy c) where
  pub tidy_registers : c.registers ≡ (view c).registers
  unfolding chip_of
  tidy_registers = ap (λ (x : Chip). x.registers) t.packed

  pub tidy_path : c.transfer ≡ path_of (view c).transfer
  unfolding chip_of
  tidy_path = ap (λ (x : Chip). x.transfer) t.packed

  -- the counts are the lengths of what they show
  pub tidy_host : c.transfer.host.count ≡ length (view c).transfer.host
  unfolding path_of
  tidy_host = ap (λ (p : DataPath). p.host.count) tidy_path

  pub tidy_scsi : c.transfer.scsi.count ≡ length (view c).transfer.scsi
  unfolding path_of
  tidy_scsi = ap (λ (p : DataPath). p.scsi.count) tidy_path
