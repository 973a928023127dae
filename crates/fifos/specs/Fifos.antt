-- The one form of the bytes sent: the first byte first, then zeros.
use Rattle.std.specs.Prelude.{ℕ, ◌≡◌, List}
use Rattle.rules.specs.Chips.{fifo_view, fifo_of}
use Rattle.rules.specs.declared.chip.Fifo.{Fifo}

-- a value in its one form
abbrev pub FifoTidy : {places : ℕ} → Fifo places → Type 0
FifoTidy {places} f = f ≡ fifo_of places (fifo_view f)

-- "those sent by Normal-mode ACKs in this event, in order, the rest 0"
abbrev pub sent_view : Fifo 8 → List ℕ
sent_view s = fifo_view s

abbrev pub sent_of : List ℕ → Fifo 8
sent_of l = fifo_of 8 l

abbrev pub SentTidy : Fifo 8 → Type 0
SentTidy s = FifoTidy s
