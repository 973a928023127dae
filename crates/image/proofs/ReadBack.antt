-- The image of a state in range reads back as that state.
use Prim.Native.Nat.{ℕ, ◌+◌, ◌*◌, ◌/◌, ◌%◌, ◌^◌, ◌<◌}
use mathlib.Core.Path.{◌≡◌, refl, ap, sym, subst, ◌∙◌}
use mathlib.Core.Bool.{Bool, true, false, ◌||◌}
use mathlib.Core.List.{List, ◌++◌, append_assoc}
use native.Mathlib.Omega.{arith}
use lib.ListN.{length, take, drop}
use lib.Seq.{take_at, drop_at, drop-drop, take-append_seam}
use Rattle.rules.specs.Numbers.{bit, one, byte_of, padded}
use Rattle.rules.specs.Counter.{counter_byte, counter_size}
use Rattle.rules.specs.Registers.{scsisig_of, scsirate_of, scsiid_of, dmacntrl1_of, dmacntrl1_byte}
use Rattle.rules.specs.State.{State}
use Rattle.rules.specs.Ranges.{InRange, InBytes, RegistersFit}
use Rattle.rules.specs.declared.registers.Scsisig.{Scsisig}
use Rattle.rules.specs.declared.registers.Scsirate.{Scsirate}
use Rattle.rules.specs.declared.registers.Scsiid.{Scsiid}
use Rattle.rules.specs.declared.registers.Dmacntrl1.{Dmacntrl1}
use Rattle.rules.specs.declared.chip.Status.{Status}
use Rattle.rules.specs.declared.chip.Latches.{Latches}
use Rattle.rules.specs.declared.chip.Phase.{Phase}
use Rattle.rules.specs.declared.chip.Phase.TheVariants.{Idle, Waiting, Arbitrating, Clearing, Selecting, Holding, Answering, Answered}
use Rattle.rules.specs.Seen.{phase_number}
use Rattle.rules.specs.declared.chip.Selection.{Selection}
use Rattle.rules.specs.declared.chip.Sequencer.{Sequencer}
use Rattle.laws.proofs.Bits.{one_below}
use Rattle.laws.proofs.Lists.{padded_length, padded_take}
use Rattle.image.specs.Image.{scsisig_byte, scsirate_byte, scsiid_byte, status_byte, status_of, latches_byte, latches_of, phase_of, sequencer_byte, statuses_of, image_of, registers_at, lines_at, transfer_at, sequencer_at, state_at, IsImage}
use Rattle.laws.proofs.EightBits.{is_one, bits}
use Rattle.registers.specs.Kept.{scsiseq_back, sxfrctl0_back, sxfrctl1_back, simode0_back, simode1_back, dmacntrl0_back}
use Rattle.image.specs.Layout.{host_bytes_place, scsi_bytes_place, stack_bytes_place}

or_false : (b : Bool) → b || false ≡ b
or_false true = refl
or_false false = refl

pub scsisig_back : (r : Scsisig) → scsisig_of false (scsisig_byte r) ≡ r
scsisig_back r =
    let b = bits r.cdexp r.ioexp r.msgexp r.atno r.selo r.bsyo r.reqo r.acko in
    λ i.
    record {
      cdexp = b.seven i;
      ioexp = b.six i;
      msgexp = b.five i;
      atno = (or_false (bit (scsisig_byte r) 4) ∙ b.four) i;
      selo = b.three i;
      bsyo = b.two i;
      reqo = b.one i;
      acko = b.zero i;
    }

-- two flags above a pointer of 0
pub dmacntrl1_back : (r : Dmacntrl1) → dmacntrl1_of (dmacntrl1_byte r 0) ≡ r
dmacntrl1_back r =
    let high : dmacntrl1_byte r 0 / 2 ^ 7 % 2 ≡ one r.pwrdwn = omega (arith, one_below r.pwrdwn, one_below r.enstk32) in
    let low : dmacntrl1_byte r 0 / 2 ^ 6 % 2 ≡ one r.enstk32 = omega (arith, one_below r.pwrdwn, one_below r.enstk32) in
    let p : bit (dmacntrl1_byte r 0) 7 ≡ r.pwrdwn = rw high (is_one r.pwrdwn) in
    let e : bit (dmacntrl1_byte r 0) 6 ≡ r.enstk32 = rw low (is_one r.enstk32) in
    λ i. record { pwrdwn = p i; enstk32 = e i }

pub status_back : (r : Status) → status_of (status_byte r) ≡ r
status_back r =
    let b = bits r.spiordy r.scsirsti r.busfree r.scsiperr r.phasechg r.reqinit r.syncerr r.fwerr in
    λ i.
    record {
      spiordy = b.seven i;
      scsirsti = b.six i;
      busfree = b.five i;
      scsiperr = b.four i;
      phasechg = b.three i;
      reqinit = b.two i;
      syncerr = b.one i;
      fwerr = b.zero i;
    }

pub latches_back : (r : Latches) → latches_of (latches_byte r) ≡ r
latches_back r =
    let b = bits false false r.spiordy r.scsirsti r.busfree r.scsiperr r.phasechg r.reqinit in
    λ i.
    record {
      spiordy = b.five i;
      scsirsti = b.four i;
      busfree = b.three i;
      scsiperr = b.two i;
      phasechg = b.one i;
      reqinit = b.zero i;
    }

pub scsirate_back : (r : Scsirate) → r.sxfr < 8 → r.sofs < 16 → scsirate_of (scsirate_byte r) ≡ r
scsirate_back r h k =
    let a : scsirate_byte r / 2 ^ 4 % 2 ^ 3 ≡ r.sxfr = omega arith in
    let b : scsirate_byte r / 2 ^ 0 % 2 ^ 4 ≡ r.sofs = omega arith in
    λ i. record { sxfr = a i; sofs = b i }

pub scsiid_back : (r : Scsiid) → r.oid < 8 → r.tid < 8 → scsiid_of (scsiid_byte r) ≡ r
scsiid_back r h k =
    let a : scsiid_byte r / 2 ^ 4 % 2 ^ 3 ≡ r.oid = omega arith in
    let b : scsiid_byte r / 2 ^ 0 % 2 ^ 3 ≡ r.tid = omega arith in
    λ i. record { oid = a i; tid = b i }

-- a counter is its three bytes
pub counter_back : (n : ℕ) → n < counter_size → counter_byte 0 n + 256 * counter_byte 1 n + 65536 * counter_byte 2 n ≡ n
counter_back n h = omega arith

-- a phase by its number
pub phase_below : (p : Phase) → phase_number p < 8
unfolding phase_number
phase_below Idle = omega arith
phase_below Waiting = omega arith
phase_below Arbitrating = omega arith
phase_below Clearing = omega arith
phase_below Selecting = omega arith
phase_below Holding = omega arith
phase_below Answering = omega arith
phase_below Answered = omega arith

pub phase_back : (p : Phase) → phase_of (phase_number p) ≡ p
unfolding phase_number
phase_back Idle = refl
phase_back Waiting = refl
phase_back Arbitrating = refl
phase_back Clearing = refl
phase_back Selecting = refl
phase_back Holding = refl
phase_back Answering = refl
phase_back Answered = refl

-- five bits above a number of three bits
module _ (b7 b6 b5 b4 b3 : Bool) (n : ℕ) (h : n < 8) where
  abbrev above : ℕ
  above = byte_of b7 b6 b5 b4 b3 false false false + n

  above_7 : bit above 7 ≡ b7
  above_7 =
      let e : above / 2 ^ 7 % 2 ≡ one b7 = omega (arith, one_below b7, one_below b6, one_below b5, one_below b4, one_below b3) in
      rw e (is_one b7)

  above_6 : bit above 6 ≡ b6
  above_6 =
      let e : above / 2 ^ 6 % 2 ≡ one b6 = omega (arith, one_below b7, one_below b6, one_below b5, one_below b4, one_below b3) in
      rw e (is_one b6)

  above_5 : bit above 5 ≡ b5
  above_5 =
      let e : above / 2 ^ 5 % 2 ≡ one b5 = omega (arith, one_below b7, one_below b6, one_below b5, one_below b4, one_below b3) in
      rw e (is_one b5)

  above_4 : bit above 4 ≡ b4
  above_4 =
      let e : above / 2 ^ 4 % 2 ≡ one b4 = omega (arith, one_below b7, one_below b6, one_below b5, one_below b4, one_below b3) in
      rw e (is_one b4)

  above_3 : bit above 3 ≡ b3
  above_3 =
      let e : above / 2 ^ 3 % 2 ≡ one b3 = omega (arith, one_below b7, one_below b6, one_below b5, one_below b4, one_below b3) in
      rw e (is_one b3)

  above_low : above % 8 ≡ n
  above_low = omega arith

-- the phase, what is noted and the statuses, from the byte that they stand in
module _ (q : Sequencer) where
  abbrev t : Selection
  t = q.status

  abbrev n : ℕ
  n = phase_number q.phase

  pub phase_of_byte : phase_of (sequencer_byte q % 8) ≡ q.phase
  phase_of_byte =
      ap phase_of (above_low t.seldo t.seldi t.selto q.noted t.selingo n (phase_below q.phase)) ∙ phase_back q.phase

  pub noted_of_byte : bit (sequencer_byte q) 4 ≡ q.noted
  noted_of_byte = above_4 t.seldo t.seldi t.selto q.noted t.selingo n (phase_below q.phase)

  pub statuses_of_byte : statuses_of (sequencer_byte q) ≡ q.status
  statuses_of_byte =
      let f = phase_below q.phase in
      λ i.
      record {
        seldo = above_7 t.seldo t.seldi t.selto q.noted t.selingo n f i;
        seldi = above_6 t.seldo t.seldi t.selto q.noted t.selingo n f i;
        selingo = above_3 t.seldo t.seldi t.selto q.noted t.selingo n f i;
        selto = above_5 t.seldo t.seldi t.selto q.noted t.selingo n f i;
      }

pub sequencer_back : (s : State) → s.sequencer.ticks < counter_size → sequencer_at (image_of s) ≡ s.sequencer
unfolding image_of
sequencer_back s h =
    let q = s.sequencer in
    let k = q.latches in
    let b = bits false false false false k.seldo k.seldi k.selingo k.selto in
    λ i.
    record {
      phase = phase_of_byte q i;
      ticks = counter_back q.ticks h i;
      noted = noted_of_byte q i;
      selid = q.selid;
      status = statuses_of_byte q i;
      latches = record { seldo = b.three i; seldi = b.two i; selingo = b.one i; selto = b.zero i };
    }

pub lines_back : (s : State) → lines_at (image_of s) ≡ s.lines
unfolding image_of
lines_back s =
    let l = s.lines in
    let u = bits false false false false false false l.parity l.rst in
    let b = bits l.cd l.io l.msg l.atn l.sel l.bsy l.req l.ack in
    λ i.
    record {
      byte = l.byte;
      parity = u.one i;
      rst = u.zero i;
      cd = b.seven i;
      io = b.six i;
      msg = b.five i;
      atn = b.four i;
      sel = b.three i;
      bsy = b.two i;
      req = b.one i;
      ack = b.zero i;
    }

pub registers_back : (s : State) → RegistersFit s.registers → registers_at (image_of s) ≡ s.registers
unfolding image_of
registers_back s f =
    let r = s.registers in
    λ i.
    record {
      scsiseq = scsiseq_back r.scsiseq i;
      sxfrctl0 = sxfrctl0_back r.sxfrctl0 i;
      sxfrctl1 = sxfrctl1_back r.sxfrctl1 i;
      scsisig = scsisig_back r.scsisig i;
      scsirate = scsirate_back r.scsirate f.sxfr f.sofs i;
      scsiid = scsiid_back r.scsiid f.oid f.tid i;
      scsidat = r.scsidat;
      simode0 = simode0_back r.simode0 i;
      simode1 = simode1_back r.simode1 i;
      dmacntrl0 = dmacntrl0_back r.dmacntrl0 i;
      dmacntrl1 = dmacntrl1_back r.dmacntrl1 i;
      brstcntrl = r.brstcntrl;
    }

-- what stands before the zeros, whatever follows them
take_padded : (n : ℕ) (l r : List ℕ) → take (length l) (padded n l ++ r) ≡ l
unfolding padded
take_padded n l r = rw append_assoc (take-append_seam l _)

-- the places of the two FIFOs and of the stack
module _ (s : State) (f : InRange s) where
  scsi_size : length (padded 8 s.transfer.scsi) ≡ 8
  scsi_size = padded_length 8 s.transfer.scsi f.transfer.scsi

  host_size : length (padded 128 s.transfer.host) ≡ 128
  host_size = padded_length 128 s.transfer.host f.transfer.host

  pub scsi_at : drop scsi_bytes_place (image_of s) ≡ padded 8 s.transfer.scsi ++ (s.stack.bytes ++ padded 128 s.transfer.host)
  unfolding image_of
  scsi_at = append_assoc (padded 8 s.transfer.scsi) s.stack.bytes (padded 128 s.transfer.host)

  pub stack_at_lem : drop stack_bytes_place (image_of s) ≡ s.stack.bytes ++ padded 128 s.transfer.host
  stack_at_lem =
      sym (drop-drop 8 scsi_bytes_place (image_of s)) ∙ ap (λ (l : List ℕ). drop 8 l) scsi_at
      ∙ drop_at (padded 8 s.transfer.scsi) (s.stack.bytes ++ padded 128 s.transfer.host) 8 scsi_size

  pub host_at : drop host_bytes_place (image_of s) ≡ padded 128 s.transfer.host
  host_at =
      sym (drop-drop 32 stack_bytes_place (image_of s)) ∙ ap (λ (l : List ℕ). drop 32 l) stack_at_lem
      ∙ drop_at s.stack.bytes (padded 128 s.transfer.host) 32 f.stack.size

  pub transfer_back : transfer_at (image_of s) ≡ s.transfer
  unfolding image_of
  transfer_back =
      let t = s.transfer in
      let h : take (length t.host) (drop host_bytes_place (image_of s)) ≡ t.host = rw host_at (padded_take 128 t.host) in
      let q : take (length t.scsi) (drop scsi_bytes_place (image_of s)) ≡ t.scsi = rw scsi_at (take_padded 8 t.scsi _) in
      λ i.
      record {
        host = h i;
        scsi = q i;
        counter = counter_back t.counter f.transfer.counter i;
        offset = t.offset;
        ack = is_one t.ack i;
        last = t.last;
      }

  pub stack_back : take 32 (drop stack_bytes_place (image_of s)) ≡ s.stack.bytes
  stack_back = rw stack_at_lem (take_at s.stack.bytes (padded 128 s.transfer.host) 32 f.stack.size)

  pub read_back : state_at (image_of s) ≡ s
  unfolding state_at image_of
  read_back =
      λ i.
      record {
        lines = lines_back s i;
        registers = registers_back s f.registers i;
        transfer = transfer_back i;
        status = status_back s.status i;
        latches = latches_back s.latches i;
        stack = record { bytes = stack_back i; pointer = s.stack.pointer };
        keptbad = is_one s.keptbad i;
        quiet = s.quiet;
        identity = s.identity;
        sequencer = sequencer_back s f.sequencer i;
      }

  pub is_image : InBytes s → IsImage (image_of s)
  is_image b =
      let e : s ≡ state_at (image_of s) = sym read_back in
      record { packed = ap image_of e; range = subst InRange e f; bytes = subst InBytes e b }
