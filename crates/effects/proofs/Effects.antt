-- What a write to each register does, by computing.
use Prim.Native.Nat.{ℕ, zero, suc, ◌+◌, ◌<◌}
use mathlib.Core.Path.{◌≡◌, refl, ◌∙◌}
use mathlib.Core.Bool.{Bool, false, not, ◌&&◌, or-false}
use mathlib.Core.List.{List, [], ◌∷◌, ◌++◌}
use native.Mathlib.Omega.{arith}
use Rattle.rules.specs.Seen.{io_seen}
use Rattle.rules.specs.State.{State}
use Rattle.rules.specs.Stack.{stack_written, pointed}
use Rattle.rules.specs.Codes.{access_code}
use Rattle.rules.specs.Events.{writes, reads}
use Rattle.rules.specs.StepA.{latch_access, automatic_ack, status_a, latches_a}
use Rattle.rules.specs.declared.codes.Code.TheVariants.{Done}
use Rattle.rules.specs.declared.map.Register.TheVariants.{SCSISEQ, SXFRCTL1, SCSISIGO, SCSIRATE, SCSIID, SIMODE0, SIMODE1, BRSTCNTRL}
use Rattle.rules.specs.declared.records.Event.TheVariants.{Write, WordRead}
use Rattle.rules.specs.Changed.{with_status, with_latches, with_stack}
use Rattle.image.specs.Image.{state_at, IsImage}
use Rattle.rules.specs.Changed.{with_host}
use Rattle.datapath.specs.Fits.{counter_written}
use Rattle.effects.specs.Writes.{Leaving, Does, Plain, Selects, storing, sequencing, kept, channel_cleared, counter_cleared, host_cleared, ack_counted}
use Rattle.effects.proofs.StatesOfA.{Leaves}
use Rattle.effects.proofs.WriteCodes.{write_code, Test, test_done}

pub leaves : {o : ℕ} {w : State → ℕ → State} → Does o w → {b : List ℕ} → IsImage b → {v : ℕ} → v < 256 → Leaves b (Write o v) (w (state_at b) v)
unfolding Leaving
leaves d {b = b} g {v = v} f = record { image = g; fits = (d.fits, f); done = d.done (state_at b) v g.range.transfer.host; after = d.after (state_at b) v }

-- the registers that are only stored
pub sxfrctl1 : Plain SXFRCTL1
unfolding Leaving
sxfrctl1 = record { written = refl; does = record { fits = omega arith; done = λ s v. write_code s 0x02 v; after = λ s v. refl } }

pub scsisigo : Plain SCSISIGO
unfolding Leaving
scsisigo = record { written = refl; does = record { fits = omega arith; done = λ s v. write_code s 0x03 v; after = λ s v. refl } }

pub scsirate : Plain SCSIRATE
unfolding Leaving
scsirate = record { written = refl; does = record { fits = omega arith; done = λ s v. write_code s 0x04 v; after = λ s v. refl } }

pub scsiid : Plain SCSIID
unfolding Leaving
scsiid = record { written = refl; does = record { fits = omega arith; done = λ s v. write_code s 0x05 v; after = λ s v. refl } }

pub brstcntrl : Plain BRSTCNTRL
unfolding Leaving
brstcntrl = record { written = refl; does = record { fits = omega arith; done = λ s v. write_code s 0x18 v; after = λ s v. refl } }

-- R-1: those that move the sequencer too
pub scsiseq : Selects SCSISEQ
unfolding Leaving
scsiseq = record { written = refl; does = record { fits = omega arith; done = λ s v. write_code s 0x00 v; after = λ s v. refl } }

pub simode0 : Selects SIMODE0
unfolding Leaving
simode0 = record { written = refl; does = record { fits = omega arith; done = λ s v. write_code s 0x10 v; after = λ s v. refl } }

pub simode1 : Selects SIMODE1
unfolding Leaving
simode1 = record { written = refl; does = record { fits = omega arith; done = λ s v. write_code s 0x11 v; after = λ s v. refl } }

-- "CLRSTCNT zeroes the counter; CLRCH empties the SCSI FIFO and zeroes the offset"
pub sxfrctl0 : Does 0x01 (λ (s : State) (v : ℕ). kept (storing 0x01 (counter_cleared (channel_cleared s v) v) v))
unfolding Leaving
sxfrctl0 = record { fits = omega arith; done = λ s v. write_code s 0x01 v; after = λ s v. refl }

-- "A write to 346h fills the latch.", and an Automatic ACK "adds one to the counter"
abbrev pub latch_filled : Bool → Bool → State → ℕ → State
latch_filled accessed acked s v =
    let t = storing 0x06 (ack_counted acked s) v in
    with_status (status_a accessed acked t.registers.sxfrctl1.enspchk t.keptbad t.status WordRead) t

pub scsidat : Does 0x06 (λ (s : State) (v : ℕ). latch_filled (latch_access s (Write 0x06 v)) (automatic_ack s (Write 0x06 v)) s v)
unfolding Leaving
scsidat = record { fits = omega arith; done = λ s v. write_code s 0x06 v; after = λ s v. refl }

-- the access to the latch as the code tests it
pub latch_accessed : (m : List ℕ) (v : ℕ) {io ready : Bool} → io ≡ io_seen (state_at m) → ready ≡ (state_at m).status.spiordy → (not io && ready) ≡ latch_access (state_at m) (Write 0x06 v)
unfolding latch_access writes reads
latch_accessed m v e f = rw (e, f, or-false (not (io_seen (state_at m))))

-- where the code has the two tests as it found them
pub fills : {m : List ℕ} → IsImage m → {v : ℕ} → v < 256 → {x y : Bool} → x ≡ latch_access (state_at m) (Write 0x06 v) → y ≡ automatic_ack (state_at m) (Write 0x06 v) → Leaves m (Write 0x06 v) (latch_filled x y (state_at m) v)
unfolding Leaving
fills {m} g {v} f p q = record { image = g; fits = (scsidat.fits, f); done = scsidat.done (state_at m) v g.range.transfer.host; after = (λ i. latch_filled (p i) (q i) (state_at m) v) ∙ scsidat.after (state_at m) v }

-- "The counter writes as 24 bits, 348h lowest"
pub stcnt : (k : ℕ) → k < 3 → Does (0x08 + k) (λ (s : State) (v : ℕ). kept (counter_written k v s))
unfolding Leaving
stcnt zero h = record { fits = omega arith; done = λ s v. write_code s 0x08 v; after = λ s v. refl }
stcnt (suc zero) h = record { fits = omega arith; done = λ s v. write_code s 0x09 v; after = λ s v. refl }
stcnt (suc (suc zero)) h = record { fits = omega arith; done = λ s v. write_code s 0x0A v; after = λ s v. refl }
stcnt (suc (suc (suc k))) h = absurd (omega (arith, h))

-- "A write to 34Bh clears latches only"
pub clrsint0 : Does 0x0B (λ (s : State) (v : ℕ). with_latches (latches_a s.latches (Write 0x0B v)) (kept (sequencing 0x0B s v)))
unfolding Leaving
clrsint0 = record { fits = omega arith; done = λ s v. write_code s 0x0B v; after = λ s v. refl }

-- "A write to 34Ch clears the named status bits and latches; bit 6 clears ATN."
abbrev pub flags_written : ℕ → State → ℕ → State
flags_written o s v = with_status (status_a false false s.registers.sxfrctl1.enspchk s.keptbad s.status (Write o v)) s

pub clrsint1 : Does 0x0C (λ (s : State) (v : ℕ). with_latches (latches_a s.latches (Write 0x0C v)) (flags_written 0x0C (storing 0x0C (sequencing 0x0C s v) v) v))
unfolding Leaving
clrsint1 = record { fits = omega arith; done = λ s v. write_code s 0x0C v; after = λ s v. refl }

-- "34Fh clears errors."
pub clrserr : Does 0x0F (flags_written 0x0F)
unfolding Leaving
clrserr = record { fits = omega arith; done = λ s v. write_code s 0x0F v; after = λ s v. refl }

-- "RSTFIFO empties the host FIFO."
pub dmacntrl0 : Does 0x12 (λ (s : State) (v : ℕ). kept (storing 0x12 (host_cleared s v) v))
unfolding Leaving
dmacntrl0 = record { fits = omega arith; done = λ s v. write_code s 0x12 v; after = λ s v. refl }

-- the pointer is written with 353h, the place that it names with 35Dh
pub dmacntrl1 : Does 0x13 (λ (s : State) (v : ℕ). kept (storing 0x13 (with_stack (pointed v s.stack) s) v))
unfolding Leaving
dmacntrl1 = record { fits = omega arith; done = λ s v. write_code s 0x13 v; after = λ s v. refl }

pub stack : Does 0x1D (λ (s : State) (v : ℕ). kept (with_stack (stack_written s.registers.dmacntrl1.enstk32 v s.stack) s))
unfolding Leaving
stack = record { fits = omega arith; done = λ s v. write_code s 0x1D v; after = λ s v. refl }

-- a byte through the port goes behind
pub port_leaves : {m : List ℕ} → IsImage m → {v : ℕ} → v < 256 → access_code (state_at m) (Write 0x16 v) ≡ Done → Leaves m (Write 0x16 v) (kept (with_host ((state_at m).transfer.host ++ (v ∷ [])) (state_at m)))
unfolding Leaving
port_leaves g {v} f d = record { image = g; fits = (omega arith, f); done = d; after = refl }

-- 34Eh and 35Eh take 0
pub test_leaves : {m : List ℕ} → IsImage m → {v : ℕ} → v < 256 → {o : ℕ} → Test o → v ≡ 0 → Leaves m (Write o v) (kept (state_at m))
unfolding Leaving
test_leaves {m} g {v} f t z = record { image = g; fits = (t.fits, f); done = test_done g v t z; after = t.after (state_at m) v }
