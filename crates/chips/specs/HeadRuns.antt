-- The head of an image in five runs of bytes, that of the sequencer image's, and a copy into the places after it.
use Rattle.std.specs.Prelude.{ℕ, ◌≡◌, List, [], ◌∷◌, length, take, drop, get_or}
use Rattle.std.proofs.Math.Seq.{paste}
use Rattle.rules.specs.Numbers.{one}
use Rattle.rules.specs.Counter.{counter_byte}
use Rattle.rules.specs.Registers.{scsiseq_byte, sxfrctl0_byte, sxfrctl1_byte, simode0_byte, simode1_byte, dmacntrl0_byte, dmacntrl1_byte}
use Rattle.rules.specs.Chips.{view}
use Rattle.rules.specs.Ranges.{Bytes}
use Rattle.rules.specs.declared.registers.Registers.{Registers}
use Rattle.rules.specs.declared.records.Lines.{Lines}
use Rattle.rules.specs.declared.chip.Status.{Status}
use Rattle.rules.specs.declared.chip.Latches.{Latches}
use Rattle.rules.specs.declared.chip.Stack.{Stack}
use Rattle.rules.specs.declared.chip.DataPath.{DataPath}
use Rattle.rules.specs.declared.chip.Chip.{Chip}
use Rattle.image.specs.Image.{image_of, IsImage, scsisig_byte, scsirate_byte, scsiid_byte, status_byte, latches_byte, upper_byte, control_byte}
use Rattle.image.specs.Layout.{image_size, pointer_place, stack_bytes_place}

-- from 0 on
abbrev pub registers_bytes : Registers → List ℕ
registers_bytes r =
    scsiseq_byte r.scsiseq
    ∷ sxfrctl0_byte r.sxfrctl0
    ∷ sxfrctl1_byte r.sxfrctl1
    ∷ scsisig_byte r.scsisig
    ∷ scsirate_byte r.scsirate
    ∷ scsiid_byte r.scsiid
    ∷ r.scsidat
    ∷ simode0_byte r.simode0
    ∷ simode1_byte r.simode1
    ∷ dmacntrl0_byte r.dmacntrl0
    ∷ dmacntrl1_byte r.dmacntrl1 0
    ∷ r.brstcntrl
    ∷ []

-- from the status on
abbrev pub flags_bytes : Status → Latches → Lines → List ℕ
flags_bytes t k l = status_byte t ∷ latches_byte k ∷ l.byte ∷ upper_byte l ∷ control_byte l ∷ []

-- from the offset on
abbrev pub numbers_bytes : Chip → List ℕ
numbers_bytes c =
    c.transfer.offset
    ∷ one c.transfer.ack
    ∷ c.transfer.last
    ∷ c.quiet
    ∷ c.identity
    ∷ c.stack.pointer
    ∷ one c.keptbad
    ∷ []

-- from the counts on
abbrev pub counts_bytes : DataPath → List ℕ
counts_bytes path =
    path.scsi.count
    ∷ path.host.count
    ∷ counter_byte 2 path.counter
    ∷ counter_byte 1 path.counter
    ∷ counter_byte 0 path.counter
    ∷ []

-- n bytes stand from a place on in an array of image_size, the others are as they were
pub record Placed (before : List ℕ) (at : ℕ) (s : List ℕ) (n : ℕ) (after : List ℕ) : Type 0 where
  pub size : length before ≡ image_size
  pub enough : length s ≡ n
  pub bytes : Bytes s
  pub placed : after ≡ paste before at s n

-- the stack that an image holds
abbrev pub stack_at : List ℕ → Stack
stack_at m = record { bytes = take 32 (drop stack_bytes_place m); pointer = get_or m pointer_place 0 }

-- the array after a chip value was stored into it
pub record Stored (c : Chip) (m : List ℕ) : Type 0 where
  pub packed : m ≡ image_of (view c)
  pub sound : IsImage m
