-- Chips that records reach and that meet what the laws ask for.
use mathlib.Core.Path.{◌≡◌, refl, sym, ap}
use mathlib.Core.Bool.{true, false}
use mathlib.Core.List.{List, [], ◌∷◌}
use Prim.Native.Nat.{ℕ}
use native.Mathlib.Omega.{arith}
use Rattle.rules.specs.State.{State, power_reset}
use Rattle.rules.specs.Records.{lines_of}
use Rattle.rules.specs.Examples.{bytes_of}
use Rattle.rules.specs.Answers.{Stepped}
use Rattle.rules.specs.Step.{after, access, step, ended}
use Rattle.rules.specs.declared.records.Lines.{Lines}
use Rattle.rules.specs.declared.codes.Code.TheVariants.{Done}
use Rattle.rules.specs.declared.records.Event.TheVariants.{Drive}
use Rattle.rules.proofs.Computes.{computes}
use Rattle.rules.proofs.Still.{always_at_rest}
use Rattle.rules.proofs.Ranges.{always_in_range, always_in_bytes, step_bytes}
use Rattle.rules.proofs.Reports.{step_fits}
use Rattle.rules.proofs.Logic.{never}
use Rattle.quick.specs.Ready.{number_low, bytes_low, ready_of, add_of, lines_record, line_record}
use Rattle.quick.specs.Facts.{rise_of, handshake_rise, takes_bytes, checks_parity, handshakes, releases_data, by_hand, opens_out, opens_in, facts_of, slow, watch_of}
use Rattle.quick.specs.Beside.{Beside, IsBeside, Goes}
use Rattle.quick.proofs.FewLines.{few, unselected, req_falls_lem}
use Rattle.quick.proofs.Rises.{plain_rise_lem}
use Rattle.quick.proofs.ByteRises.{ByteRises, synchronous_out, synchronous_in, asynchronous_out, asynchronous_in}
use Rattle.quick.proofs.Ready.{goes}
use Rattle.quick.proofs.Stands.{acked}
use Rattle.quick.proofs.Watched.{beside_record, line_record_stands}

-- what a line event reports
abbrev Reports : State → Lines → ℕ → ℕ → List ℕ → Type 0
Reports s l acks moves sent =
    ((access s (Drive (few l s.lines))).acks ≡ acks) × ((access s (Drive (few l s.lines))).moves ≡ moves)
    × ((access s (Drive (few l s.lines))).sent ≡ sent)

-- OUT, SYNCHRONOUS. 352h: ENDMA, WRITE; 341h: SCSIEN, DMAEN; 344h: SOFS 8; five words; others drive BSY: eight bytes in the SCSI
-- FIFO and two in the host FIFO
abbrev outwards : ℕ → List (List ℕ)
outwards sofs =
    bytes_of 4 0x32000088 ∷ bytes_of 4 0x210000C0 ∷ bytes_of 4 sofs ∷ bytes_of 4 0x60004241 ∷ bytes_of 4 0x60004443 ∷ bytes_of 4 0x60004645
    ∷ bytes_of 4 0x60004847 ∷ bytes_of 4 0x60004A49 ∷ bytes_of 4 0xA0000004 ∷ []

abbrev s : State
s = after power_reset (outwards 0x24000008)

-- BSY and REQ
abbrev l : Lines
l = lines_of 0x6

out_rises : ByteRises l s
unfolding computes
out_rises =
    record {
      rises = record { low = refl; high = refl; rst = refl; same = unselected l s refl; good = refl };
      path = refl;
      enabled = refl;
      reqinit = refl;
    }

out_met : Reports s l 1 1 (0x41 ∷ [])
unfolding computes
out_met =
    let e =
    synchronous_out l s out_rises (always_at_rest (outwards 0x24000008)) (always_in_range (outwards 0x24000008)) refl (omega arith) refl refl refl
    in
    (ap (λ (x : Stepped). x.acks) e, ap (λ (x : Stepped). x.moves) e, ap (λ (x : Stepped). x.sent) e)

-- ASYNCHRONOUS: SOFS 0
abbrev s0 : State
s0 = after power_reset (outwards 0x24000000)

asked_rises : ByteRises l s0
unfolding computes
asked_rises =
    record {
      rises = record { low = refl; high = refl; rst = refl; same = unselected l s0 refl; good = refl };
      path = refl;
      enabled = refl;
      reqinit = refl;
    }

asked_met : Reports s0 l 1 1 (0x41 ∷ [])
unfolding computes
asked_met =
    let e =
    asynchronous_out l s0 asked_rises (always_at_rest (outwards 0x24000000)) (always_in_range (outwards 0x24000000)) refl (omega arith) refl refl
    in
    (ap (λ (x : Stepped). x.acks) e, ap (λ (x : Stepped). x.moves) e, ap (λ (x : Stepped). x.sent) e)

-- IN. 352h: ENDMA; 341h: SCSIEN, DMAEN; 344h: SOFS; 343h: IOEXP; others drive IO and BSY, then REQ and data too
abbrev inwards : ℕ → List (List ℕ)
inwards sofs =
    bytes_of 4 0x32000080 ∷ bytes_of 4 0x210000C0 ∷ bytes_of 4 sofs ∷ bytes_of 4 0x23000040 ∷ bytes_of 4 0xA0000044 ∷ []

abbrev t : State
t = after power_reset (inwards 0x24000008)

abbrev m : Lines
m = lines_of 0x10446

in_rises : ByteRises m t
unfolding computes
in_rises =
    record {
      rises = record { low = refl; high = refl; rst = refl; same = unselected m t refl; good = refl };
      path = refl;
      enabled = refl;
      reqinit = refl;
    }

in_met : Reports t m 1 1 []
unfolding computes
in_met =
    let e =
    synchronous_in m t in_rises (always_at_rest (inwards 0x24000008)) (always_in_range (inwards 0x24000008)) refl (omega arith) refl refl refl
    in
    (ap (λ (x : Stepped). x.acks) e, ap (λ (x : Stepped). x.moves) e, ap (λ (x : Stepped). x.sent) e)

abbrev t0 : State
t0 = after power_reset (inwards 0x24000000)

taken_rises : ByteRises m t0
unfolding computes
taken_rises =
    record {
      rises = record { low = refl; high = refl; rst = refl; same = unselected m t0 refl; good = refl };
      path = refl;
      enabled = refl;
      reqinit = refl;
    }

taken_met : Reports t0 m 1 1 []
unfolding computes
taken_met =
    let e =
    asynchronous_in m t0 taken_rises (always_at_rest (inwards 0x24000000)) (always_in_range (inwards 0x24000000)) refl (omega arith) refl refl
    in
    (ap (λ (x : Stepped). x.acks) e, ap (λ (x : Stepped). x.moves) e, ap (λ (x : Stepped). x.sent) e)

-- REQ FALLS: automatic ACK goes off
abbrev acking : List (List ℕ)
acking =
    bytes_of 4 0x32000088 ∷ bytes_of 4 0x210000C0 ∷ bytes_of 4 0x60004241 ∷ bytes_of 4 0xA0000004 ∷ bytes_of 4 0xA0000006 ∷ []

abbrev u : State
u = after power_reset acking

falls_met : (u.transfer.ack ≡ true) × ((access u (Drive (few (lines_of 0x4) u.lines))).state.transfer.ack ≡ false)
unfolding computes acked
falls_met = (
  refl,
  ap (λ (x : Stepped). x.state.transfer.ack)
      (req_falls_lem (lines_of 0x4) u (always_at_rest acking) (always_in_range acking) refl refl refl),
)

-- A RISE WITHOUT A HANDSHAKE: Automatic mode, 341h SPIOEN; SPIORDY
abbrev automatically : List (List ℕ)
automatically = bytes_of 4 0x21000008 ∷ bytes_of 4 0xA0000004 ∷ []

abbrev v : State
v = after power_reset automatically

plain_met : (access v (Drive (few l v.lines))).state.status.spiordy ≡ true
unfolding computes
plain_met =
    ap (λ (x : Stepped). x.state.status.spiordy)
    (plain_rise_lem l v (record { low = refl; high = refl; rst = refl; same = unselected l v refl; good = refl }) refl (always_at_rest automatically) (always_in_range automatically) refl refl refl)

-- WHAT STANDS BESIDE the first chip: eight bytes and two, the record of BSY, its facts: a REQ is synchronous out; path, handshakes
-- possible, synchronous, data released with ACK, port open for a word out
abbrev beside : Beside
beside = record { ready = 0x0208000000000000; lines = 0xA0000004; watch = 0xFFFC01FC; facts = 0x0BC9 }

is_beside : IsBeside s beside
unfolding computes number_low ready_of lines_record line_record facts_of rise_of handshake_rise takes_bytes checks_parity handshakes releases_data by_hand opens_out opens_in slow watch_of
is_beside = record { ready = refl; lines = refl; watch = refl; facts = λ e. refl }

-- the record of BSY and REQ agrees with it in the watched bits, and is the event above
record_met : step s (bytes_of 4 0xA0000006) ≡ access s (Drive (few l s.lines))
unfolding computes
record_met = beside_record s beside 0xA0000006 is_beside (omega arith) (omega arith) refl

-- and the way of the quick code goes with its step: the counts after it, one ACK and one move more, the byte sent
abbrev afterwards : Beside
afterwards = record { ready = 0x0108000000000000; lines = 0xA0000006; watch = 0xFFFFFFFF; facts = 0 }

goes_met : Goes (step s (bytes_of 4 0xA0000006)) (step s (bytes_of 4 0xA0000006)).state (record { done = true; beside = afterwards; add = 0x801; sent = 0x41 })
unfolding computes number_low bytes_low ready_of lines_record line_record add_of
goes_met =
    goes (step s (bytes_of 4 0xA0000006)) (step_fits s (bytes_of 4 0xA0000006) (always_in_range (outwards 0x24000008)))
    (step_bytes s (bytes_of 4 0xA0000006) (always_in_range (outwards 0x24000008)) (always_in_bytes (outwards 0x24000008))) afterwards
    (record { ready = refl; lines = refl; watch = refl; facts = λ e. absurd (never (sym e)) })

-- the record of the present lines changes nothing
lines_met : step s (bytes_of 4 0xA0000004) ≡ ended s Done 0
unfolding computes lines_record line_record
lines_met = line_record_stands s (always_at_rest (outwards 0x24000008)) (always_in_range (outwards 0x24000008)) (omega arith)
