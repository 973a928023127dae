-- What the lines and the registers come to, so that an event need not ask again: bits of one number.
use Rattle.std.specs.Prelude.{ℕ, ◌+◌, ◌*◌, Bool, not, ◌&&◌, ◌||◌, cond, ltb}
use Rattle.rules.specs.Numbers.{one}
use Rattle.rules.specs.State.{State}
use Rattle.rules.specs.Seen.{phase_number, automatic, connected, io_seen, matched, mismatched, normal, path, rst_seen, synchronous}
use Rattle.rules.specs.Codes.{shut}
use Rattle.rules.specs.declared.records.Event.TheVariants.{WordWrite, WordRead}

-- WHAT A RISING REQ DOES, in the three lowest bits
-- no byte moves: not matched, or no path and not Automatic, or asynchronous with SCSIEN 0
abbrev pub plain_rise : ℕ
plain_rise = 0

abbrev pub synchronous_out_rise : ℕ
synchronous_out_rise = 1

abbrev pub synchronous_in_rise : ℕ
synchronous_in_rise = 2

abbrev pub asynchronous_out_rise : ℕ
asynchronous_out_rise = 3

abbrev pub asynchronous_in_rise : ℕ
asynchronous_in_rise = 4

-- SPIORDY
abbrev pub automatic_rise : ℕ
automatic_rise = 5

-- the offset moves and no handshake follows: synchronous with SCSIEN 0
abbrev pub general_rise : ℕ
general_rise = 6

unfoldable pub handshake_rise : State → ℕ
handshake_rise s =
    let write = s.registers.dmacntrl0.write in
    cond (synchronous s) (cond write synchronous_out_rise synchronous_in_rise) (cond write asynchronous_out_rise asynchronous_in_rise)

unfoldable pub rise_of : State → ℕ
rise_of s =
    cond (matched s)
    (cond (path s.registers)
    (cond s.registers.sxfrctl0.scsien (handshake_rise s) (cond (synchronous s) general_rise plain_rise))
    (cond (automatic s.registers) automatic_rise plain_rise))
    plain_rise

-- THE OTHER FACTS
-- connected with IO: the parity of a byte is kept
unfoldable pub takes_bytes : State → Bool
takes_bytes s = connected s && io_seen s

-- and ENSPCHK: it is checked
unfoldable pub checks_parity : State → Bool
checks_parity s = takes_bytes s && s.registers.sxfrctl1.enspchk

-- path, matched and SCSIEN: a handshake is possible
unfoldable pub handshakes : State → Bool
handshakes s = path s.registers && matched s && s.registers.sxfrctl0.scsien

-- Normal, connected, IO not seen: data is driven with automatic ACK, and released with it
unfoldable pub releases_data : State → Bool
releases_data s = normal s.registers && connected s && not (io_seen s)

-- Manual or no mode: 343h drives ACK, or nothing does
unfoldable pub by_hand : State → Bool
by_hand s = not (normal s.registers) && not (automatic s.registers)

-- the port is open for a word out, or in
unfoldable pub opens_out : State → Bool
opens_out s = not (shut s.registers (WordWrite 0))

unfoldable pub opens_in : State → Bool
opens_in s = not (shut s.registers WordRead)

-- ALL OF THEM. Bit 3 says that they are looked up, so that the number is not 0
unfoldable pub facts_of : State → ℕ
facts_of s =
    rise_of s + 8 + one (takes_bytes s) * 16 + one (checks_parity s) * 32 + one (path s.registers) * 64
    + one (handshakes s) * 128 + one (synchronous s) * 256 + one (releases_data s) * 512 + one (by_hand s) * 1024
    + one (opens_out s) * 2048 + one (opens_in s) * 4096

-- WHAT A RECORD MUST HAVE IN COMMON WITH THAT OF THE PRESENT LINES, so that a quick way takes it
-- all bits but those of data, parity, REQ and ACK
abbrev pub few_watched : ℕ
few_watched = 0xFFFC01FC

-- all
abbrev pub all_watched : ℕ
all_watched = 0xFFFFFFFF

-- RST seen, the phase past waiting, others drive SEL, ENREQINIT, or a mismatch that ENPHASEMIS shows: no quick way
unfoldable pub slow : State → Bool
slow s =
    rst_seen s || ltb 1 (phase_number s.sequencer.phase) || s.lines.sel || s.registers.simode1.enreqinit
    || (s.registers.simode1.enphasemis && mismatched s)

unfoldable pub watch_of : State → ℕ
watch_of s = cond (slow s) all_watched few_watched
