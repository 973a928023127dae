-- A state in range and its chip value: packed and read back, nothing changes.
use mathlib.Core.Path.{◌≡◌}
use mathlib.Core.List.{List}
use Prim.Native.Nat.{ℕ, ◌<◌, ◌≤◌, min}
use native.Mathlib.Omega.{arith}
use native.Mathlib.Nat.{mod-eq_of_lt}
use lib.ListN.{length, take}
use lib.Seq.{take-append_seam}
use Rattle.rules.specs.Numbers.{padded}
use Rattle.rules.specs.State.{State, Transfer}
use Rattle.rules.specs.Chips.{path_view, path_of, registers_view, stack_view, sequencer_view, view, chip_of}
use Rattle.rules.specs.Ranges.{TransferFits, RegistersFit, StackFits, InRange}
use Rattle.rules.specs.declared.registers.Registers.{Registers}
use Rattle.rules.specs.declared.chip.Stack.{Stack}
use Rattle.rules.specs.declared.chip.Sequencer.{Sequencer}
use Rattle.rules.specs.Counter.{counter_size}

smaller : (n : ℕ) → n ≤ 8 → min 8 n ≡ n
smaller n h = omega arith

-- what stands before the zeros
pub padded_take : (n : ℕ) (l : List ℕ) → take (length l) (padded n l) ≡ l
unfolding padded
padded_take n l = take-append_seam l _

pub path_read_back : (t : Transfer) → TransferFits t → path_view (path_of t) ≡ t
unfolding path_view path_of
path_read_back t f =
    λ i.
    record {
      host = padded_take 128 t.host i;
      scsi = padded_take 8 t.scsi i;
      counter = mod-eq_of_lt f.counter i;
      offset = smaller t.offset f.offset i;
      ack = t.ack;
      last = t.last;
    }

pub registers_read_back : (r : Registers) → RegistersFit r → registers_view r ≡ r
unfolding registers_view
registers_read_back r f = rw (mod-eq_of_lt f.sxfr, mod-eq_of_lt f.sofs, mod-eq_of_lt f.oid, mod-eq_of_lt f.tid)

pub stack_read_back : (k : Stack) → StackFits k → stack_view k ≡ k
unfolding stack_view
stack_read_back k f = rw (mod-eq_of_lt f.pointer)

pub sequencer_read_back : (q : Sequencer) → q.ticks < counter_size → sequencer_view q ≡ q
unfolding sequencer_view
sequencer_read_back q f = rw (mod-eq_of_lt f)

-- one chip for one state: it reads back as that state
pub read_back : (s : State) → InRange s → view (chip_of s) ≡ s
unfolding view chip_of
read_back s f =
    λ i.
    record {
      lines = s.lines;
      registers = registers_read_back s.registers f.registers i;
      transfer = path_read_back s.transfer f.transfer i;
      status = s.status;
      latches = s.latches;
      stack = stack_read_back s.stack f.stack i;
      keptbad = s.keptbad;
      quiet = smaller s.quiet f.quiet i;
      identity = mod-eq_of_lt f.identity i;
      sequencer = sequencer_read_back s.sequencer f.sequencer i;
    }
