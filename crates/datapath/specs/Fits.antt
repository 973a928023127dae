-- A state that fits the places of an image, and a state with one part of its data path another.
use Rattle.std.specs.Prelude.{ℕ, ◌≤◌, ◌<◌, ◌+◌, ◌≡◌, Bool, List, length, get_or, set}
use Rattle.rules.specs.State.{State}
use Rattle.rules.specs.Counter.{counter_size, counter_step, counter_with}
use Rattle.rules.specs.Changed.{with_counter}
use Rattle.counter.specs.Steps.{counter_steps}
use Rattle.rules.specs.declared.counts.Direction.{Direction}
use Rattle.image.specs.Layout.{scsi_bytes_place, scsi_count_place}

-- the FIFOs, the stack and the counter fit their places
pub record FitsPlaces (s : State) : Type 0 where
  pub host : length s.transfer.host ≤ 128
  pub scsi : length s.transfer.scsi ≤ 8
  pub stack : length s.stack.bytes ≡ 32
  pub counter : s.transfer.counter < counter_size

-- byte k of the counter written
abbrev pub counter_written : ℕ → ℕ → State → State
counter_written k v s = with_counter (counter_with k v s.transfer.counter) s

-- the counter stepped, and whether that passed its end
abbrev pub counter_stepped : Direction → State → State
counter_stepped d s = with_counter (counter_step d s.transfer.counter).value s

abbrev pub counter_passes : Direction → State → Bool
counter_passes d s = (counter_step d s.transfer.counter).passed

-- and n steps, and whether one of them passed it
abbrev pub counter_stepped_by : Direction → ℕ → State → State
counter_stepped_by d n s = with_counter (counter_steps d n s.transfer.counter).value s

abbrev pub counter_passes_in : Direction → ℕ → State → Bool
counter_passes_in d n s = (counter_steps d n s.transfer.counter).passed

-- a byte behind those of the SCSI FIFO, of every array
abbrev pub byte_stored : ℕ → List ℕ → List ℕ
byte_stored b m = set (set m (scsi_bytes_place + get_or m scsi_count_place 0) b) scsi_count_place (get_or m scsi_count_place 0 + 1)
