-- Whatever its numbers, a chip value whose arrays have their sizes stands for a state in range.
use mathlib.Core.Path.{◌≡◌}
use native.Mathlib.Omega.{arith}
use lib.ListN.{length, length-take}
use Rattle.rules.specs.Chips.{path_view, registers_view, stack_view, sequencer_view, view}
use Rattle.rules.specs.Ranges.{TransferFits, StackFits, InRange}
use Rattle.rules.specs.declared.chip.DataPath.{DataPath}
use Rattle.rules.specs.declared.chip.Stack.{Stack}
use Rattle.rules.specs.declared.chip.Chip.{Chip}

pub path_fits : (p : DataPath) → length p.host.bytes ≡ 128 → length p.scsi.bytes ≡ 8 → TransferFits (path_view p)
unfolding path_view
path_fits p h s =
    record {
      host = simp length-take (omega arith);
      scsi = simp length-take (omega arith);
      counter = omega arith;
      offset = omega arith;
    }

pub stack_fits : (k : Stack) → length k.bytes ≡ 32 → StackFits (stack_view k)
unfolding stack_view
stack_fits k h = record { pointer = omega arith; size = h }

pub view_fits : (c : Chip) → TransferFits (path_view c.transfer) → StackFits (stack_view c.stack) → InRange (view c)
unfolding view registers_view sequencer_view
view_fits c p k =
    record {
      registers = record { sxfr = omega arith; sofs = omega arith; oid = omega arith; tid = omega arith };
      transfer = p;
      stack = k;
      quiet = omega arith;
      identity = omega arith;
      sequencer = omega arith;
    }
