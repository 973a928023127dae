-- The statements over string calls are not empty: deeds from the image of power reset that meet every hypothesis, computed.
use mathlib.Core.Path.{◌≡◌, refl, ap, sym, subst, ◌∙◌}
use mathlib.Core.Bool.{Bool, true, ◌&&◌}
use mathlib.Core.List.{List, [], ◌∷◌, ◌++◌, append-nil}
use Prim.Native.Nat.{ℕ, zero, suc, ◌*◌}
use native.Mathlib.Omega.{arith}
use lib.Dec.{ltb, lit<}
use borrow.Author.Tests.{ltb-true}
use lib.ListN.{length, take, drop, replicate}
use Rattle.rules.specs.Ranges.{Bytes}
use Rattle.rules.specs.Examples.{bytes_of, same}
use Rattle.rules.proofs.Logic.{left_true, right_true}
use Rattle.image.specs.Image.{state_at}
use Rattle.saved.proofs.Cases.{zeros}
use Rattle.saved.proofs.Acceptance.{Acceptable, accepted_acceptable}
use Rattle.runs.specs.Run.{Starts, run_allows}
use Rattle.runs.proofs.Examples.{records}
use Rattle.runs.proofs.Tests.{same_eq}
use Rattle.words.specs.Words.{strung_none, stopped, one_done, one_then, strung}
use Rattle.words.specs.Calls.{readable, writable, wrote_of, fetched_of, not_written, not_fetched, written_words, fetched_words}
use Rattle.wordhost.specs.WordCalls.{ImageWrite, ImageFetch, image_written, image_fetched}
use Rattle.driver.specs.Exchanges.{Exchange, counter_of, taken_of, over}
use Rattle.driver.specs.Driving.{Round, Keeps, Goes, exchanges_of}
use Rattle.driver.specs.DemandThree.{DemandThree, CutRead, state_after}
use Rattle.driver.specs.ImageChains.{HostCall, exchange_over}
use Rattle.driver.specs.Strings.{Deed, by_step, by_write, by_read, handed_in, left_by, IsDeed, DeedChain, last_left, exchanges_of_deeds, taken_by, offered_by, accepted_by, read_by, over_deeds, DeedsOffer, deed_may_come, all_deeds}
use Rattle.driver.proofs.Images.{call_on, call_on_made}
use Rattle.driver.proofs.ImageExample.{calls, zeros_bytes, zeros_accepted}
use Rattle.driver.proofs.Strings.{demand_three_of_deeds, taken_in_hand_lem, deeds_go, deeds_acceptable, deeds_state, exchanges_append, chain_join}

-- one name opens all that a string call over an image is made of
unfoldable pub strings : ℕ
unfolding calls strung_none stopped one_done one_then strung readable writable wrote_of fetched_of not_written not_fetched written_words fetched_words image_written image_fetched
strings = 0

-- what a host sets out to do: hand over a record, or write words, or read words
pub data Wish : Type 0 where
  hand : List ℕ → Wish
  write : (words : ℕ) (bytes : List ℕ) → Bytes bytes → Wish
  read : ℕ → Wish

-- the deed on an image, as the contract says; each buffer is lent with zeros
abbrev pub deed_on : Wish → List ℕ → Deed
deed_on (hand bytes) image = by_step (call_on image bytes (replicate 16 0))
deed_on (write words bytes b) image =
    let r : ImageWrite = image_written image bytes words (replicate (8 * words) 0) in
    by_write
    (record {
      image = image;
      words = words;
      bytes = bytes;
      before = replicate (8 * words) 0;
      left = r.image;
      done = r.done;
      count = r.count;
      buffer = r.buffer;
      code = r.code;
    })
deed_on (read words) image =
    let r : ImageFetch = image_fetched image words (replicate (2 * words) 0) in
    by_read
    (record {
      image = image;
      words = words;
      before = replicate (2 * words) 0;
      left = r.image;
      done = r.done;
      buffer = r.buffer;
      code = r.code;
    })

abbrev pub deeds_from : List ℕ → List Wish → List Deed
deeds_from image [] = []
deeds_from image (w ∷ more) = deed_on w image ∷ deeds_from (left_by (deed_on w image)) more

wish_handed : (w : Wish) (image : List ℕ) → handed_in (deed_on w image) ≡ image
wish_handed (hand bytes) image = refl
wish_handed (write words bytes b) image = refl
wish_handed (read words) image = refl

wish_made : (w : Wish) (image : List ℕ) → IsDeed (deed_on w image)
wish_made (hand bytes) image = call_on_made image bytes (replicate 16 0)
wish_made (write words bytes b) image = (b, record { image = refl; done = refl; count = refl; buffer = refl; code = refl })
wish_made (read words) image = record { image = refl; done = refl; buffer = refl; code = refl }

deeds_chain : (image : List ℕ) (ws : List Wish) → DeedChain image (deeds_from image ws)
deeds_chain image [] = tt
deeds_chain image (w ∷ more) = (wish_handed w image, (wish_made w image, deeds_chain (left_by (deed_on w image)) more))

abbrev pub hands : List (List ℕ) → List Wish
hands [] = []
hands (bytes ∷ more) = hand bytes ∷ hands more

-- what the string calls report: the words done, the bytes sent, the code
abbrev pub reports : List Deed → List ℕ
reports [] = []
reports (by_step k ∷ more) = reports more
reports (by_write k ∷ more) = k.done ∷ k.count ∷ k.code ∷ reports more
reports (by_read k ∷ more) = k.done ∷ k.code ∷ reports more

abbrev pub letters : List ℕ
letters = 0x41 ∷ 0x42 ∷ 0x43 ∷ 0x44 ∷ []

pub letters_bytes : Bytes letters
letters_bytes = (omega arith, (omega arith, (omega arith, (omega arith, tt))))

-- A WRITE RUN, 16 bits, synchronous: two REQ, then two words in one call, which sends two of their bytes; the cut, the counter read
abbrev set_up : List Wish
set_up = hands (records (0x24000004 ∷ 0x32000088 ∷ 0x210000E0 ∷ []))

abbrev goes : List Wish
goes = hands (records (0xA0000006 ∷ 0xA0000004 ∷ 0xA0000006 ∷ 0xA0000004 ∷ [])) ++ write 2 letters letters_bytes ∷ []

abbrev reads : List Wish
reads = hands (records (0x48000000 ∷ 0x49000000 ∷ 0x4A000000 ∷ []))

unfoldable pub started : List Deed
started = deeds_from zeros set_up

unfoldable pub ready : List ℕ
ready = last_left zeros started

unfoldable pub run : List Deed
run = deeds_from ready goes

unfoldable pub cut : HostCall
cut = call_on (last_left ready run) (bytes_of 4 0x21000060) (replicate 16 0)

unfoldable pub reading : List Deed
reading = deeds_from cut.left reads

abbrev pub whole : List Deed
whole = started ++ (run ++ by_step cut ∷ reading)

unfoldable pub written : ℕ
unfolding strings started ready run cut reading
written = 0

-- the call did both words and sent two bytes, which the host has in its hands
pub run_reports : reports run ≡ 2 ∷ 2 ∷ 0 ∷ []
unfolding written
run_reports = same_eq (reports run) (2 ∷ 2 ∷ 0 ∷ []) refl

pub run_hand : over_deeds taken_by run ≡ 0x41 ∷ 0x42 ∷ []
unfolding written
run_hand = refl

zeros_acceptable : Acceptable zeros
zeros_acceptable = accepted_acceptable zeros zeros_bytes zeros_accepted

started_chain : DeedChain zeros started
unfolding started
started_chain = deeds_chain zeros set_up

pub ready_acceptable : Acceptable ready
unfolding ready
ready_acceptable = deeds_acceptable zeros started zeros_acceptable started_chain

pub ready_starts : Starts true (state_at ready)
unfolding written
ready_starts =
    record {
      host = refl;
      scsi = refl;
      counter = refl;
      offset = refl;
      acko = refl;
      opened = refl;
      direction = refl;
      enselo = refl;
      enseli = refl;
      enrseli = refl;
      idle = refl;
    }

run_chain : DeedChain ready run
unfolding run
run_chain = deeds_chain ready goes

run_comes : all_deeds (deed_may_come run_allows) run ≡ true
unfolding written
run_comes = refl

run_offers : DeedsOffer letters run
unfolding written
run_offers = (refl, (refl, (refl, (refl, (refl, tt)))))

-- so its exchanges offer the data in order, and what they show as taken is what the host has in its hands
pub run_goes : Goes letters (exchanges_of_deeds run)
run_goes = deeds_go ready run letters ready_acceptable run_chain run_comes run_offers

pub run_takes : over taken_of (exchanges_of_deeds run) ≡ 0x41 ∷ 0x42 ∷ []
run_takes = taken_in_hand_lem ready run ready_acceptable run_chain ready_starts run_comes ∙ run_hand

-- DEMAND 3 OF IT: the counter read after the cut is the number of bytes that the host has in its hands
whole_chain : DeedChain zeros whole
unfolding ready cut reading
whole_chain =
    chain_join zeros started (run ++ by_step cut ∷ reading) started_chain
    (chain_join ready run (by_step cut ∷ reading) run_chain
    (refl, (call_on_made (last_left ready run) (bytes_of 4 0x21000060) (replicate 16 0), deeds_chain cut.left reads)))

pub whole_claimed : DemandThree (state_at zeros) (exchanges_of_deeds whole)
whole_claimed = demand_three_of_deeds zeros whole zeros_bytes zeros_accepted whole_chain

abbrev pub round : Round
round = record { run = exchanges_of_deeds run; cut = exchange_over cut; reading = exchanges_of_deeds reading; clearing = [] }

round_keeps : Keeps round
unfolding written
round_keeps =
    record { run = refl; cut = refl; cut_code = refl; reading = refl; low = lit< tt; middle = lit< tt; high = lit< tt }

round_part : exchanges_of_deeds whole ≡ exchanges_of_deeds started ++ (exchanges_of round ++ [])
round_part =
    exchanges_append started (run ++ by_step cut ∷ reading)
    ∙ ap (λ (l : List Exchange). exchanges_of_deeds started ++ l)
    (exchanges_append run (by_step cut ∷ reading) ∙ sym (append-nil (exchanges_of round)))

starts_there : Starts true (state_after (state_at zeros) (exchanges_of_deeds started))
unfolding ready
starts_there = subst (Starts true) (deeds_state zeros started zeros_acceptable started_chain) ready_starts

pub round_read : CutRead round
round_read = whole_claimed.cut (exchanges_of_deeds started) [] round round_part starts_there round_keeps

pub round_counts : counter_of round.reading ≡ 2
unfolding written
round_counts = refl

-- A CALL THAT STOPPED: of 69 words 68 find room, 8 bytes in the SCSI FIFO and 128 in the host FIFO; when the target has taken two
-- bytes, the rest is offered again
abbrev pub up_to : ℕ → List ℕ → List ℕ
up_to zero l = l
up_to (suc n) l = up_to n (n ∷ l)

abbrev pub numbers : List ℕ
numbers = up_to 138 []

abbrev pub all_bytes : List ℕ → Bool
all_bytes [] = true
all_bytes (b ∷ l) = ltb b 256 && all_bytes l

pub bytes_by_test : (l : List ℕ) → all_bytes l ≡ true → Bytes l
bytes_by_test [] h = tt
bytes_by_test (b ∷ l) h =
    (ltb-true b 256 (left_true (ltb b 256) (all_bytes l) h), bytes_by_test l (right_true (ltb b 256) (all_bytes l) h))

abbrev offers_test : List ℕ → List Deed → Bool
offers_test rest [] = true
offers_test rest (d ∷ more) = same (take (length (offered_by d)) rest) (offered_by d) && offers_test (drop (length (accepted_by d)) rest) more

offers_by_test : (rest : List ℕ) (ds : List Deed) → offers_test rest ds ≡ true → DeedsOffer rest ds
offers_by_test rest [] h = tt
offers_by_test rest (d ∷ more) h =
    let first = same (take (length (offered_by d)) rest) (offered_by d) in
    let later = offers_test (drop (length (accepted_by d)) rest) more in (
      same_eq (take (length (offered_by d)) rest) (offered_by d) (left_true first later h),
      offers_by_test (drop (length (accepted_by d)) rest) more (right_true first later h),
    )

abbrev stops : List Wish
stops =
    write 69 numbers (bytes_by_test numbers refl)
    ∷ hands (records (0xA0000006 ∷ 0xA0000004 ∷ 0xA0000006 ∷ 0xA0000004 ∷ []))
    ++ write 1 (drop 136 numbers) (bytes_by_test (drop 136 numbers) refl) ∷ []

unfoldable pub stopping : List Deed
stopping = deeds_from ready stops

-- one call did 68 words and stopped with code 4, the other did one; two bytes were taken; all deeds may come, and offer the numbers
abbrev told : List Deed → Bool
told ds = same (reports ds) (68 ∷ 0 ∷ 4 ∷ 1 ∷ 0 ∷ 0 ∷ [])

abbrev takes : List Deed → Bool
takes ds = same (over_deeds taken_by ds) (0 ∷ 1 ∷ [])

abbrev comes : List Deed → Bool
comes ds = all_deeds (deed_may_come run_allows) ds

-- computed at once, since each computing of the 69 words takes a second
abbrev stop_test : List Deed → Bool
stop_test ds = told ds && (takes ds && (comes ds && offers_test numbers ds))

stopping_test : stop_test stopping ≡ true
unfolding written stopping
stopping_test = refl

module _ (ds : List Deed) (h : stop_test ds ≡ true) where
  behind : (takes ds && (comes ds && offers_test numbers ds)) ≡ true
  behind = right_true (told ds) (takes ds && (comes ds && offers_test numbers ds)) h

  as_told : reports ds ≡ 68 ∷ 0 ∷ 4 ∷ 1 ∷ 0 ∷ 0 ∷ []
  as_told = same_eq (reports ds) (68 ∷ 0 ∷ 4 ∷ 1 ∷ 0 ∷ 0 ∷ []) (left_true (told ds) (takes ds && (comes ds && offers_test numbers ds)) h)

  as_taken : over_deeds taken_by ds ≡ 0 ∷ 1 ∷ []
  as_taken = same_eq (over_deeds taken_by ds) (0 ∷ 1 ∷ []) (left_true (takes ds) (comes ds && offers_test numbers ds) behind)

  come_and_offer : (comes ds && offers_test numbers ds) ≡ true
  come_and_offer = right_true (takes ds) (comes ds && offers_test numbers ds) behind

  all_come_lem : comes ds ≡ true
  all_come_lem = left_true (comes ds) (offers_test numbers ds) come_and_offer

  all_offer : DeedsOffer numbers ds
  all_offer = offers_by_test numbers ds (right_true (comes ds) (offers_test numbers ds) come_and_offer)

stopping_chain : DeedChain ready stopping
unfolding stopping
stopping_chain = deeds_chain ready stops

pub stopping_reports : reports stopping ≡ 68 ∷ 0 ∷ 4 ∷ 1 ∷ 0 ∷ 0 ∷ []
stopping_reports = as_told stopping stopping_test

pub stopping_goes : Goes numbers (exchanges_of_deeds stopping)
stopping_goes =
    deeds_go ready stopping numbers ready_acceptable stopping_chain (all_come_lem stopping stopping_test) (all_offer stopping stopping_test)

pub stopping_takes : over taken_of (exchanges_of_deeds stopping) ≡ 0 ∷ 1 ∷ []
stopping_takes =
    taken_in_hand_lem ready stopping ready_acceptable stopping_chain ready_starts (all_come_lem stopping stopping_test)
    ∙ as_taken stopping stopping_test

-- A READ RUN, 16 bits: two bytes from the target, then a call for two words, which finds one
abbrev fetches : List Wish
fetches =
    hands
    (records
    (0x32000080 ∷ 0x23000040 ∷ 0x210000E0 ∷ 0xA0010446 ∷ 0xA0000044 ∷ 0xA0010846 ∷ 0xA0000044 ∷ []))
    ++ read 2 ∷ []

unfoldable pub fetching : List Deed
fetching = deeds_from zeros fetches

pub fetching_reports : reports fetching ≡ 1 ∷ 5 ∷ []
unfolding strings fetching
fetching_reports = same_eq (reports fetching) (1 ∷ 5 ∷ []) refl

pub fetching_hand : over_deeds read_by fetching ≡ 0x41 ∷ 0x42 ∷ []
unfolding strings fetching
fetching_hand = refl

pub fetching_claimed : DemandThree (state_at zeros) (exchanges_of_deeds fetching)
unfolding fetching
fetching_claimed = demand_three_of_deeds zeros fetching zeros_bytes zeros_accepted (deeds_chain zeros fetches)
