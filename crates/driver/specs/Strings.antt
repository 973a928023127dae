-- R-3 in a run. "Demand 3 goes through: a run may use write calls in place of word writes; the data offered is the call's; a call that
-- stopped offers its rest again. Read runs likewise."
use Rattle.std.specs.Prelude.{ℕ, ◌*◌, ◌%◌, ◌≡◌, Bool, true, ◌&&◌, List, [], ◌∷◌, ◌++◌, length, take, drop}
use Rattle.rules.specs.State.{State}
use Rattle.rules.specs.Ranges.{Bytes}
use Rattle.rules.specs.Step.{step, answer}
use Rattle.rules.specs.declared.records.Event.{Event}
use Rattle.image.specs.Image.{state_at}
use Rattle.runs.specs.Comes.{along}
use Rattle.runs.specs.Run.{chip_took}
use Rattle.words.specs.Words.{word_writes, word_reads}
use Rattle.wordhost.specs.WordCalls.{image_written, image_fetched, LeftWrite, LeftFetch}
use Rattle.driver.specs.Exchanges.{Exchange, handed_over, taken_of, offered_of, accepted_of, read_of, may_come}
use Rattle.driver.specs.ImageChains.{HostCall, IsMade, exchange_over}

-- a write call: the image handed in, the number of words, their bytes, the buffer lent for the bytes sent; the image left, the words
-- done, the number of bytes sent, the buffer after it, and the code returned
pub record WriteCall : Type 0 where
  pub image : List ℕ
  pub words : ℕ
  pub bytes : List ℕ
  pub before : List ℕ
  pub left : List ℕ
  pub done : ℕ
  pub count : ℕ
  pub buffer : List ℕ
  pub code : ℕ

-- a read call, its buffer lent for the bytes read
pub record ReadCall : Type 0 where
  pub image : List ℕ
  pub words : ℕ
  pub before : List ℕ
  pub left : List ℕ
  pub done : ℕ
  pub buffer : List ℕ
  pub code : ℕ

-- each as its contract says
abbrev pub IsWritten : WriteCall → Type 0
IsWritten k =
    LeftWrite (image_written k.image k.bytes k.words k.before) k.left k.done k.count k.buffer k.code

abbrev pub IsFetched : ReadCall → Type 0
IsFetched k = LeftFetch (image_fetched k.image k.words k.before) k.left k.done k.buffer k.code

-- A DEED OF THE HOST: a call of the step, a write call, or a read call
pub data Deed : Type 0 where
  by_step : HostCall → Deed
  by_write : WriteCall → Deed
  by_read : ReadCall → Deed

abbrev pub handed_in : Deed → List ℕ
handed_in (by_step k) = k.image
handed_in (by_write k) = k.image
handed_in (by_read k) = k.image

abbrev pub left_by : Deed → List ℕ
left_by (by_step k) = k.left
left_by (by_write k) = k.left
left_by (by_read k) = k.left

-- it is made as said; what C lends are bytes
abbrev pub IsDeed : Deed → Type 0
IsDeed (by_step k) = IsMade k
IsDeed (by_write k) = Bytes k.bytes × IsWritten k
IsDeed (by_read k) = IsFetched k

-- A CHAIN OF DEEDS: each is handed the image that the last one left, the first of them this one
abbrev pub DeedChain : List ℕ → List Deed → Type 0
DeedChain image [] = Unit {0}
DeedChain image (d ∷ more) = (handed_in d ≡ image) × (IsDeed d × DeedChain (left_by d) more)

abbrev pub last_left : List ℕ → List Deed → List ℕ
last_left image [] = image
last_left image (d ∷ more) = last_left (left_by d) more

-- THE EXCHANGES THAT A DEED STANDS FOR: single events, each record with the answer that it gets where its turn comes
abbrev pub answered_from : State → List (List ℕ) → List Exchange
answered_from s [] = []
answered_from s (bytes ∷ more) = record { bytes = bytes; buffer = answer s bytes } ∷ answered_from (step s bytes).state more

-- of a string call the words that it did; "The refused word itself changes nothing and is not done"
abbrev pub exchanges_by : Deed → List Exchange
exchanges_by (by_step k) = exchange_over k ∷ []
exchanges_by (by_write k) = answered_from (state_at k.image) (take k.done (word_writes k.words k.bytes))
exchanges_by (by_read k) = answered_from (state_at k.image) (take k.done (word_reads k.words))

abbrev pub exchanges_of_deeds : List Deed → List Exchange
exchanges_of_deeds [] = []
exchanges_of_deeds (d ∷ more) = exchanges_by d ++ exchanges_of_deeds more

-- WHAT THE HOST HAS IN ITS HANDS OF THEM: in a write run the bytes taken, the first so many of the buffer for the bytes sent
abbrev pub taken_by : Deed → List ℕ
taken_by (by_step k) = taken_of (exchange_over k)
taken_by (by_write k) = take k.count k.buffer
taken_by (by_read k) = []

-- the bytes that it offers, and those of the words done
abbrev pub offered_by : Deed → List ℕ
offered_by (by_step k) = offered_of (exchange_over k)
offered_by (by_write k) = k.bytes
offered_by (by_read k) = []

abbrev pub accepted_by : Deed → List ℕ
accepted_by (by_step k) = accepted_of (exchange_over k)
accepted_by (by_write k) = take (2 * k.done) k.bytes
accepted_by (by_read k) = []

-- the bytes that the chip handed to it
abbrev pub read_by : Deed → List ℕ
read_by (by_step k) = read_of (exchange_over k)
read_by (by_write k) = []
read_by (by_read k) = take (2 * k.done) k.buffer

abbrev pub over_deeds : (Deed → List ℕ) → List Deed → List ℕ
over_deeds f [] = []
over_deeds f (d ∷ more) = f d ++ over_deeds f more

-- "the data offered is the call's; a call that stopped offers its rest again"
abbrev pub DeedsOffer : List ℕ → List Deed → Type 0
DeedsOffer rest [] = Unit {0}
DeedsOffer rest (d ∷ more) = (take (length (offered_by d)) rest ≡ offered_by d) × DeedsOffer (drop (length (accepted_by d)) rest) more

-- a string call may come in every run
abbrev pub deed_may_come : (Event → Bool) → Deed → Bool
deed_may_come allows (by_step k) = may_come allows (exchange_over k)
deed_may_come allows (by_write k) = true
deed_may_come allows (by_read k) = true

abbrev pub all_deeds : (Deed → Bool) → List Deed → Bool
all_deeds f [] = true
all_deeds f (d ∷ more) = f d && all_deeds f more

-- AT EVERY MOMENT of a write run by deeds: the bytes taken, then SCSI FIFO, then host FIFO, are the data of the words done, as the image
-- that was left last has them; its counter is the number of those taken
pub record WriteInHand (image : List ℕ) (deeds : List Deed) : Type 0 where
  pub order :
      over_deeds taken_by deeds
      ++ ((state_at (last_left image deeds)).transfer.scsi ++ (state_at (last_left image deeds)).transfer.host)
      ≡ over_deeds accepted_by deeds
  pub count : (state_at (last_left image deeds)).transfer.counter ≡ length (over_deeds taken_by deeds) % 16777216

-- of a read run: the bytes that the host has read, then host FIFO, then SCSI FIFO, are what the chip took
abbrev pub ReadInHand : List ℕ → List Deed → Type 0
ReadInHand image deeds =
    over_deeds read_by deeds
    ++ ((state_at (last_left image deeds)).transfer.host ++ (state_at (last_left image deeds)).transfer.scsi)
    ≡ along chip_took (state_at image) (handed_over (exchanges_of_deeds deeds))
