-- What a driver has in its hands: the records that it handed over, and what each call left in the lent answer buffer.
use Rattle.std.specs.Prelude.{ℕ, ◌+◌, ◌*◌, ◌/◌, ◌%◌, Bool, true, not, ◌&&◌, ◌||◌, cond, List, [], ◌∷◌, ◌++◌, eqb, length, take, drop, get_or}
use Rattle.rules.specs.Records.{decode}
use Rattle.rules.specs.Events.{offered, asked, reads}
use Rattle.rules.specs.Answers.{answer_size}
use Rattle.rules.specs.declared.map.Register.{Register}
use Rattle.rules.specs.declared.map.Register.TheVariants.{STCNT0, STCNT1, STCNT2}
use Rattle.rules.specs.declared.records.Event.{Event}
use Rattle.runs.specs.Comes.{says, event_bytes}
use Rattle.runs.specs.Run.{low_bytes}

pub record Exchange : Type 0 where
  pub bytes : List ℕ
  pub buffer : List ℕ

-- "if the answer buffer is not 16 bytes nothing is written to it"
abbrev pub is_answered : Exchange → Bool
is_answered x = eqb (length x.buffer) answer_size

-- the record that took effect: with another buffer none did, as with a record of no bytes
abbrev pub handed : Exchange → List ℕ
handed x = cond (is_answered x) x.bytes []

-- "code 3, IRQ 1, ACKs issued 4": the three high bits of the first byte; with another buffer "the call also returns the code", 1
abbrev pub code_of : Exchange → ℕ
code_of x = cond (is_answered x) (get_or x.buffer 0 0 / 32) 1

-- "A refused access (1 to 5, 7)"
abbrev pub is_refused : Exchange → Bool
is_refused x = not (eqb (code_of x) 0) && not (eqb (code_of x) 6)

-- "ACKs issued 4": the four low bits of the first byte
abbrev pub acks_of : Exchange → ℕ
acks_of x = cond (is_answered x) (get_or x.buffer 0 0 % 16) 0

-- the bytes taken: the ACK count, then so many of the last eight bytes
abbrev pub taken_of : Exchange → List ℕ
taken_of x = take (acks_of x) (drop 8 x.buffer)

-- "value read 16"
abbrev pub value_of : Exchange → ℕ
value_of x = 256 * get_or x.buffer 2 0 + get_or x.buffer 3 0

-- what a port write offers, and what the port accepted of it: the whole, unless it is refused
abbrev pub offered_of : Exchange → List ℕ
offered_of x = event_bytes offered (decode (handed x))

abbrev pub accepted_of : Exchange → List ℕ
accepted_of x = cond (is_refused x) [] (offered_of x)

-- the bytes that a port read handed to the host
abbrev pub read_of : Exchange → List ℕ
read_of x = cond (is_refused x) [] (event_bytes (λ e. low_bytes (asked e) (value_of x)) (decode (handed x)))

-- a record may come: it is refused and changes nothing, or its event is allowed
abbrev pub may_come : (Event → Bool) → Exchange → Bool
may_come allows x = is_refused x || says allows (decode (handed x))

-- one exchange after the other
abbrev pub all_over : (Exchange → Bool) → List Exchange → Bool
all_over f [] = true
all_over f (x ∷ more) = f x && all_over f more

abbrev pub over : (Exchange → List ℕ) → List Exchange → List ℕ
over f [] = []
over f (x ∷ more) = f x ++ over f more

abbrev pub handed_over : List Exchange → List (List ℕ)
handed_over [] = []
handed_over (x ∷ more) = handed x ∷ handed_over more

-- the value of a read of the register, where it was answered with code 0
abbrev pub register_read : Register → Exchange → List ℕ
register_read r x = cond (eqb (code_of x) 0 && says (λ e. reads e r) (decode (handed x))) (value_of x ∷ []) []

-- "348h lowest"
abbrev pub bytes_taken : ℕ → ℕ → ℕ → ℕ
bytes_taken low middle high = low + 256 * middle + 65536 * high

-- the counter put together from the first answered read of each of 348h, 349h, 34Ah
abbrev pub counter_of : List Exchange → ℕ
counter_of xs =
    bytes_taken (get_or (over (register_read STCNT0) xs) 0 0) (get_or (over (register_read STCNT1) xs) 0 0)
    (get_or (over (register_read STCNT2) xs) 0 0)
