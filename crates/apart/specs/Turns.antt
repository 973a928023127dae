-- R-4: a box that holds the stack apart from the chip, over calls of `stackhost::rabenteig_stack` and `host::rabenteig_step` alone.
use Rattle.std.specs.Prelude.{ℕ, ◌≡◌, true, cond, List, [], ◌∷◌, ◌++◌, eqb, length, take, drop, get_or, set, replicate}
use Rattle.rules.specs.State.{State}
use Rattle.rules.specs.Records.{decode}
use Rattle.rules.specs.Answers.{answer_size}
use Rattle.rules.specs.Step.{after, answers}
use Rattle.stack.specs.Apart.{bytes_with}
use Rattle.stack.specs.Box.{Doing, Accesses, Resets, Steps, doing}
use Rattle.stackhost.specs.StackCalls.{stack_call, stack_called}
use Rattle.image.specs.Image.{image_of}
use Rattle.image.specs.Layout.{dmacntrl1_place, host_bytes_place, pointer_place, stack_bytes_place}
use Rattle.saved.specs.Accepted.{accepted}
use Rattle.host.specs.ImageCalls.{IsImageCall}

-- what the box keeps: the image of the chip, whose own stack and byte for 353h nobody looks at, the 33 bytes of the stack and the byte
-- for 353h
pub record Kept : Type 0 where
  pub image : List ℕ
  pub stack : List ℕ
  pub control : List ℕ

-- ONE RECORD: before the calls the byte lent for the value and the buffer lent for the answer; what rabenteig_stack left and returned;
-- what rabenteig_step left and returned
pub record Turn : Type 0 where
  pub bytes : List ℕ
  pub lent : ℕ
  pub before : List ℕ
  pub stack : List ℕ
  pub control : List ℕ
  pub value : List ℕ
  pub found : ℕ
  pub image : List ℕ
  pub buffer : List ℕ
  pub code : ℕ

-- the record of 0 ticks
abbrev no_ticks : List ℕ
no_ticks = 0xC0 ∷ 0 ∷ 0 ∷ 0 ∷ []

-- "Where rabenteig_stack returns 1 ..., the record is for the step"; where it returns 0 the step is asked what 0 ticks show
abbrev pub handed_on : Turn → List ℕ
handed_on t = cond (eqb t.found 0) no_ticks t.bytes

-- both calls, as their contracts say
pub record IsTurn (k : Kept) (t : Turn) : Type 0 where
  pub size : length t.before ≡ answer_size
  pub stacked : stack_call t.stack t.control t.value t.found ≡ stack_called k.stack k.control t.bytes (t.lent ∷ [])
  pub stepped : IsImageCall k.image (handed_on t) t.before t.image t.buffer t.code

-- the answer shown: "that of an event of 0 ticks with the value in its third and fourth byte", or the step's
abbrev pub shown_by : Turn → List ℕ
shown_by t = cond (eqb t.found 0) (bytes_with (get_or t.value 0 0) t.buffer) t.buffer

-- what it keeps then: what the calls left; "and after power reset zero the stack and the byte for 353h as well"
abbrev pub kept_by : Doing → Turn → Kept
kept_by (Accesses a) t = record { image = t.image; stack = t.stack; control = t.control }
kept_by Resets t = record { image = t.image; stack = replicate 33 0; control = 0 ∷ [] }
kept_by Steps t = record { image = t.image; stack = t.stack; control = t.control }

abbrev pub kept_after : Turn → Kept
kept_after t = kept_by (doing (decode t.bytes)) t

-- TURNS, each handed what the last one left
abbrev pub Turns : Kept → List Turn → Type 0
Turns k [] = Unit {0}
Turns k (t ∷ more) = IsTurn k t × Turns (kept_after t) more

abbrev pub kept_last : Kept → List Turn → Kept
kept_last k [] = k
kept_last k (t ∷ more) = kept_last (kept_after t) more

abbrev pub records_of : List Turn → List (List ℕ)
records_of [] = []
records_of (t ∷ more) = t.bytes ∷ records_of more

abbrev pub shown : List Turn → List (List ℕ)
shown [] = []
shown (t ∷ more) = shown_by t ∷ shown more

-- THE START, from the image of a chip: its stack, its pointer and its byte for 353h taken out; the image of power reset is all zeros
abbrev pub kept_from : List ℕ → Kept
kept_from m =
    record {
      image = m;
      stack = take 32 (drop stack_bytes_place m) ++ get_or m pointer_place 0 ∷ [];
      control = get_or m dmacntrl1_place 0 ∷ [];
    }

-- ALL IN ONE: "in an image the byte for 353h is byte 10, the pointer byte 22, the stack bytes 43 to 74"
abbrev pub put_in : Kept → List ℕ
put_in k =
    let m = set (set k.image dmacntrl1_place (get_or k.control 0 0)) pointer_place (get_or k.stack 32 0) in
    take stack_bytes_place m ++ (take 32 k.stack ++ drop host_bytes_place m)

-- THE PROMISE: the box shows the answers of the chip s to the records, byte by byte; and what it keeps, put in one, is the image of the
-- chip after them, and is accepted
pub record ShowsChip (s : State) (k : Kept) (ts : List Turn) : Type 0 where
  pub answered : shown ts ≡ answers s (records_of ts)
  pub image : put_in (kept_last k ts) ≡ image_of (after s (records_of ts))
  pub taken : accepted (put_in (kept_last k ts)) ≡ true
