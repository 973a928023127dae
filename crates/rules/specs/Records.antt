-- Event records. Document 01, "Records": "An event is 4 bytes: kind (3 bits), register offset from 340h (5), payload (24)."
use Rattle.std.specs.Prelude.{Option, Some, None}
use Rattle.rules.specs.declared.records.Event.{Event}
use Rattle.std.specs.Prelude.{ℕ, ◌+◌, ◌*◌, ◌/◌, ◌%◌, Bool, ◌&&◌, cond, List, [], ◌∷◌, eqb, ltb, length, get_or}
use Rattle.rules.specs.Numbers.{bit, field}
use Rattle.rules.specs.declared.records.Lines.{Lines}
use Rattle.rules.specs.declared.records.Event.TheVariants.{PowerReset, Write, Read, WordWrite, WordRead, Drive, Ticks}

-- "lines others drive: data 8, parity 1, RST, CD, IO, MSG, ATN, SEL, BSY, REQ, ACK (18 low bits, in that order)"
unfoldable pub lines_of : ℕ → Lines
lines_of p =
    record {
      byte = field p 10 8;
      parity = bit p 9;
      rst = bit p 8;
      cd = bit p 7;
      io = bit p 6;
      msg = bit p 5;
      atn = bit p 4;
      sel = bit p 3;
      bsy = bit p 2;
      req = bit p 1;
      ack = bit p 0;
    }

-- "Unused bits, and the offset except in kinds 1 and 2, are 0. Kind 7 is bad.": the payload of each kind is below this
abbrev pub payload_limit : ℕ → ℕ
payload_limit kind = get_or (1 ∷ 256 ∷ 1 ∷ 65536 ∷ 1 ∷ 262144 ∷ 16777216 ∷ []) kind 0

-- and the offset below this
abbrev pub offset_limit : ℕ → ℕ
offset_limit kind = get_or (1 ∷ 32 ∷ 32 ∷ []) kind 1

-- the table of kinds
abbrev pub event_of : ℕ → ℕ → ℕ → Option Event
event_of kind offset payload =
    get_or
    (Some PowerReset  -- 0: power reset
    ∷ Some (Write offset payload)  -- 1: register write
    ∷ Some (Read offset)  -- 2: register read
    ∷ Some (WordWrite payload)  -- 3: word write at 356h
    ∷ Some WordRead  -- 4: word read at 356h
    ∷ Some (Drive (lines_of payload))  -- 5: lines others drive
    ∷ Some (Ticks payload)  -- 6: ticks of 50 ns
    ∷ [])
    kind None

unfoldable pub well_formed : ℕ → ℕ → ℕ → Bool
well_formed kind offset payload = ltb payload (payload_limit kind) && ltb offset (offset_limit kind)

unfoldable pub fields_of : ℕ → ℕ → ℕ → Option Event
fields_of kind offset payload = cond (well_formed kind offset payload) (event_of kind offset payload) None

abbrev pub payload_of : ℕ → ℕ → ℕ → ℕ
payload_of b1 b2 b3 = (b1 * 256 + b2) * 256 + b3

-- "record not 4 bytes or not well formed" is None
unfoldable pub decode : List ℕ → Option Event
decode bytes =
    cond (eqb (length bytes) 4)
    (fields_of (get_or bytes 0 0 / 32) (get_or bytes 0 0 % 32) (payload_of (get_or bytes 1 0) (get_or bytes 2 0) (get_or bytes 3 0))) None
