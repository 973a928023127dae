-- What a word access gives: refused, the chip as it was; or done.
use Rattle.std.specs.Prelude.{Some}
use Prim.Native.Nat.{ℕ, ◌+◌, ◌*◌, ◌/◌, ◌%◌, ◌<◌, ◌≤◌}
use mathlib.Core.Path.{◌≡◌, refl, sym, ◌∙◌, ap}
use mathlib.Core.Bool.{Bool, true, false, not, ◌||◌, cond, beq}
use mathlib.Core.List.{[], ◌∷◌}
use native.Mathlib.Omega.{arith}
use lib.Dec.{ltb}
use borrow.Author.Tests.{ltb-true, ltb-false, lt-ltb, le-ltb}
use lib.ListN.{length}
use Rattle.rules.specs.State.{State}
use Rattle.rules.specs.Records.{well_formed, fields_of, decode, payload_of}
use Rattle.rules.specs.Events.{writes, offered, asked, wide, port_write, port_read}
use Rattle.rules.specs.Codes.{absent, test_value, shut, no_room, no_bytes, access_code, refused_value, is_done, is_refusal}
use Rattle.rules.specs.Step.{refused, done, access, step_event, step_decoded, step}
use Rattle.rules.specs.declared.registers.Registers.{Registers}
use Rattle.rules.specs.declared.records.Event.TheVariants.{WordWrite, WordRead}
use Rattle.rules.specs.declared.codes.Code.{Code}
use Rattle.rules.specs.declared.codes.Code.TheVariants.{Done, Shut, NoRoom, NoBytes}
use Rattle.rules.proofs.Logic.{never}
use Rattle.words.specs.Words.{word_write, word_read}

payload : (low high : ℕ) → payload_of 0 high low ≡ high * 256 + low
payload low high = omega arith

pub decode_write : (low high : ℕ) → low < 256 → high < 256 → decode (word_write low high) ≡ Some (WordWrite (high * 256 + low))
unfolding decode fields_of well_formed
decode_write low high a b = rw (payload low high, lt-ltb (high * 256 + low) 65536 (omega arith))

-- the step of a word's record is the event
pub step_write : (s : State) (low high : ℕ) → low < 256 → high < 256 → step s (word_write low high) ≡ access s (WordWrite (high * 256 + low))
unfolding step step_decoded step_event
step_write s low high a b = ap (step_decoded s) (decode_write low high a b)

pub step_read : (s : State) → step s word_read ≡ access s WordRead
unfolding step step_decoded step_event decode fields_of well_formed
step_read s = refl

-- the bytes that it offers
pub offered_word : (low high : ℕ) → low < 256 → offered (WordWrite (high * 256 + low)) ≡ low ∷ high ∷ []
unfolding offered
offered_word low high a =
    let l : (high * 256 + low) % 256 ≡ low = omega arith in
    let h : (high * 256 + low) / 256 ≡ high = omega arith in
    rw (l, h)

-- "data port shut": as 352h tells of words, written or read
unfoldable pub shut_to_words : Bool → Registers → Bool
shut_to_words read r =
    not r.dmacntrl0.endma || r.dmacntrl0.dma || beq r.dmacntrl0.eightbit true || beq r.dmacntrl0.write read

write_shut : (r : Registers) (word : ℕ) → shut r (WordWrite word) ≡ shut_to_words false r
unfolding shut shut_to_words port_write port_read wide
write_shut r word = refl

read_shut : (r : Registers) → shut r WordRead ≡ shut_to_words true r
unfolding shut shut_to_words port_write port_read wide
read_shut r = refl

-- a port that is not shut to words has WRITE as the direction asks
pub open_direction : (read : Bool) (r : Registers) → shut_to_words read r ≡ false → r.dmacntrl0.write ≡ not read
unfolding shut_to_words
open_direction read r h =
    way r.dmacntrl0.write read (not r.dmacntrl0.endma || r.dmacntrl0.dma || beq r.dmacntrl0.eightbit true) h
  where
    way : (w d before : Bool) → (before || beq w d) ≡ false → w ≡ not d
    way true false before e = refl
    way false true before e = refl
    way true true true e = absurd (never (sym e))
    way true true false e = absurd (never (sym e))
    way false false true e = absurd (never (sym e))
    way false false false e = absurd (never (sym e))

two_more : (n : ℕ) → ltb 128 (n + 2) ≡ ltb 126 n
two_more n = go (ltb 126 n) refl
  where
    go : (b : Bool) → ltb 126 n ≡ b → ltb 128 (n + 2) ≡ b
    go true e = lt-ltb 128 (n + 2) (omega (arith, ltb-true 126 n e))
    go false e = le-ltb 128 (n + 2) (omega (arith, ltb-false 126 n e))

refusal : (a b : Bool) (c d : Code) → is_refusal c ≡ true → is_refusal d ≡ true → is_done (cond a c (cond b d Done)) ≡ false → is_refusal (cond a c (cond b d Done)) ≡ true
refusal true b c d p q h = p
refusal false true c d p q h = q
refusal false false c d p q h = absurd (never (sym h))

open_by : (a b : Bool) (c d : Code) → is_done c ≡ false → is_done (cond a c (cond b d Done)) ≡ true → a ≡ false
open_by true b c d p h = absurd (never (sym p ∙ h))
open_by false b c d p h = refl

-- "Checked in the order 1, 2, 7, 3, then 4 or 5": of words 3, then 4 or 5
module _ (s : State) (fits : length s.transfer.host ≤ 128) where
  write_code : (word : ℕ) → access_code s (WordWrite word) ≡ cond (shut_to_words false s.registers) Shut (cond (ltb 126 (length s.transfer.host)) NoRoom Done)
  unfolding access_code absent test_value no_room no_bytes writes offered asked
  write_code word = rw (write_shut s.registers word, two_more (length s.transfer.host), le-ltb (length s.transfer.host) 0 (omega arith))

  read_code : access_code s WordRead ≡ cond (shut_to_words true s.registers) Shut (cond (ltb (length s.transfer.host) 2) NoBytes Done)
  unfolding access_code absent test_value no_room no_bytes writes offered asked
  read_code = rw (read_shut s.registers, le-ltb 128 (length s.transfer.host + 0) (omega arith))

  -- so what is not done is refused
  pub write_or_refused : (word : ℕ) → is_done (access_code s (WordWrite word)) ≡ false → is_refusal (access_code s (WordWrite word)) ≡ true
  write_or_refused word h =
      ap is_refusal (write_code word)
      ∙ refusal (shut_to_words false s.registers) (ltb 126 (length s.transfer.host)) Shut NoRoom refl refl (sym (ap is_done (write_code word)) ∙ h)

  pub read_or_refused : is_done (access_code s WordRead) ≡ false → is_refusal (access_code s WordRead) ≡ true
  read_or_refused h =
      ap is_refusal read_code
      ∙ refusal (shut_to_words true s.registers) (ltb (length s.transfer.host) 2) Shut NoBytes refl refl (sym (ap is_done read_code) ∙ h)

  -- and what is done found the port open
  pub write_found_open : (word : ℕ) → is_done (access_code s (WordWrite word)) ≡ true → shut_to_words false s.registers ≡ false
  write_found_open word h =
      open_by (shut_to_words false s.registers) (ltb 126 (length s.transfer.host)) Shut NoRoom refl (sym (ap is_done (write_code word)) ∙ h)

  pub read_found_open : is_done (access_code s WordRead) ≡ true → shut_to_words true s.registers ≡ false
  read_found_open h =
      open_by (shut_to_words true s.registers) (ltb (length s.transfer.host) 2) Shut NoBytes refl (sym (ap is_done read_code) ∙ h)

  -- a word that finds the port open and room, or bytes, is done
  pub write_done : (word : ℕ) → shut_to_words false s.registers ≡ false → length s.transfer.host ≤ 126 → access s (WordWrite word) ≡ done s (WordWrite word)
  unfolding access
  write_done word o h = rw (write_code word, o, le-ltb 126 (length s.transfer.host) h)

  pub read_done : shut_to_words true s.registers ≡ false → 2 ≤ length s.transfer.host → access s WordRead ≡ done s WordRead
  unfolding access
  read_done o h = rw (read_code, o, le-ltb (length s.transfer.host) 2 h)

  -- one that finds the port shut is refused
  pub shut_to_write : (word : ℕ) → shut_to_words false s.registers ≡ true → access s (WordWrite word) ≡ refused s Shut 0
  unfolding access refused_value
  shut_to_write word o = rw (write_code word, o)

  pub shut_to_read : shut_to_words true s.registers ≡ true → access s WordRead ≡ refused s Shut 0xFFFF
  unfolding access refused_value
  shut_to_read o = rw (read_code, o)

  -- and one that finds no room, or no bytes
  pub write_refused : (word : ℕ) → shut_to_words false s.registers ≡ false → 126 < length s.transfer.host → access s (WordWrite word) ≡ refused s NoRoom 0
  unfolding access refused_value
  write_refused word o h = rw (write_code word, o, lt-ltb 126 (length s.transfer.host) h)

  pub read_refused : shut_to_words true s.registers ≡ false → length s.transfer.host < 2 → access s WordRead ≡ refused s NoBytes 0xFFFF
  unfolding access refused_value
  read_refused o h = rw (read_code, o, lt-ltb (length s.transfer.host) 2 h)
