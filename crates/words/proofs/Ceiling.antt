-- R-12: how many moves a string transfer makes at most, over every state in range.
use Rattle.std.specs.Prelude.{Option, Some, None}
use Prim.Native.Nat.{ℕ, zero, suc, ◌+◌, ◌*◌, ◌<◌, ◌≤◌}
use mathlib.Core.Path.{◌≡◌, refl, ap}
use mathlib.Core.Bool.{Bool, true, false, not, ◌&&◌, cond}
use mathlib.Core.List.{List, [], ◌∷◌}
use native.Mathlib.Omega.{arith}
use lib.Dec.{ltb}
use lib.ListN.{length, drop, get_or, length-replicate}
use borrow.Author.Tests.{ltb-true}
use Rattle.rules.specs.Rest.{AtRest}
use Rattle.rules.specs.Ranges.{InRange}
use Rattle.rules.specs.State.{State, power_reset}
use Rattle.rules.specs.Records.{well_formed, fields_of, decode, payload_of}
use Rattle.rules.specs.Codes.{access_code, refused_value, is_done, is_refusal}
use Rattle.rules.specs.Answers.{Stepped}
use Rattle.rules.specs.Step.{ended, done, access, step_event, step_decoded, step, after}
use Rattle.rules.specs.declared.codes.Code.{Code}
use Rattle.rules.specs.declared.codes.Code.TheVariants.{Malformed}
use Rattle.rules.specs.declared.records.Event.{Event}
use Rattle.rules.specs.declared.records.Event.TheVariants.{WordWrite, WordRead}
use Rattle.rules.proofs.Logic.{left_true, cond_case}
use Rattle.rules.proofs.Ranges.{one_fits, done_fits, step_in_range, always_in_range}
use Rattle.rules.proofs.Still.{step_rests, always_at_rest}
use Rattle.words.specs.Words.{Strung, strung_none, stopped, one_done, one_then, strung, word_write, word_writes, word_read, word_reads}
use Rattle.words.specs.Calls.{Wrote, Fetched, readable, writable, wrote_of, fetched_of, not_written, not_fetched, written_words, fetched_words}
use Rattle.words.specs.Moves.{moves_then, moves_until, write_moves, read_moves, write_ceiling, word_ceiling, rest_ceiling, read_ceiling}
use Rattle.words.proofs.Accesses.{step_read}
use Rattle.words.proofs.WordMoves.{owed, written_moves, rest_moves, read_moves_lem}

-- ONE LAW FOR THE SUM: a worth that a state has, and an allowance for each word. Where every step of a record makes no more moves
-- than the worth goes down, but for the allowance, the records make no more than the worth at the start and the allowances of those
-- that are done.
module _ (P : State → Type 0) (keeps : (s : State) (bytes : List ℕ) → P s → P (step s bytes).state) (worth : State → ℕ) (each : ℕ) where
  abbrev Paid : State → Stepped → Type 0
  Paid s r = r.moves + worth r.state ≤ worth s + each

  abbrev AllPaid : List (List ℕ) → Type 0
  AllPaid [] = Unit {0}
  AllPaid (bytes ∷ more) = ((s : State) → P s → Paid s (step s bytes)) × AllPaid more

  paid_then : (s : State) (r : Stepped) (n : ℕ) (x : Strung) → Paid s r → n ≤ worth r.state + each * x.done
      → moves_then r n ≤ worth s + each * (one_then r x).done
  unfolding moves_then one_then stopped one_done
  paid_then s r n x a b = go (is_refusal r.code)
    where
      go : (c : Bool) → cond c 0 (r.moves + n) ≤ worth s + each * (cond c (stopped r) (one_done r x)).done
      go true = omega arith
      go false = omega arith

  paid_sum : (records : List (List ℕ)) → AllPaid records → (s : State) → P s
      → moves_until s records ≤ worth s + each * (strung s records).done
  unfolding moves_until strung
  paid_sum [] a s p = omega arith
  paid_sum (bytes ∷ more) a s p =
      paid_then s (step s bytes) (moves_until (step s bytes).state more) (strung (step s bytes).state more) (a.0 s p)
      (paid_sum more a.1 (step s bytes).state (keeps s bytes p))

  -- a refusal makes no move and changes nothing
  paid_ended : (s : State) (code : Code) (value : ℕ) → Paid s (ended s code value)
  unfolding ended
  paid_ended s code value = omega arith

  paid_access : (s : State) (e : Event) → (is_done (access_code s e) ≡ true → Paid s (done s e)) → Paid s (access s e)
  unfolding access
  paid_access s e f =
      cond_case (Paid s) (is_done (access_code s e)) _ _ f (λ d. paid_ended s (access_code s e) (refused_value e))

  -- words written: whatever the bytes, their record is a word write or is not well formed
  abbrev WritesPaid : Type 0
  WritesPaid =
      (s : State) (word : ℕ) → word < 65536 → P s → is_done (access_code s (WordWrite word)) ≡ true → Paid s (done s (WordWrite word))

  paid_write : WritesPaid → (low high : ℕ) (s : State) → P s → Paid s (step s (word_write low high))
  unfolding step step_decoded step_event decode fields_of well_formed
  paid_write f low high s p =
      let word = payload_of 0 high low in
      cond_case (λ (d : Option Event). Paid s (step_decoded s d)) (ltb word 65536 && true) (Some (WordWrite word)) None
      (λ t. paid_access s (WordWrite word) (f s word (ltb-true word 65536 (left_true (ltb word 65536) true t)) p))
      (λ t. paid_ended s Malformed 0)

  paid_writes : WritesPaid → (n : ℕ) (bytes : List ℕ) → AllPaid (word_writes n bytes)
  paid_writes f zero bytes = tt
  paid_writes f (suc n) bytes = (paid_write f (get_or bytes 0 0) (get_or bytes 1 0), paid_writes f n (drop 2 bytes))

  writes_sum : WritesPaid → (s : State) → P s → (n : ℕ) (bytes : List ℕ)
      → moves_until s (word_writes n bytes) ≤ worth s + each * (strung s (word_writes n bytes)).done
  writes_sum f s p n bytes = paid_sum (word_writes n bytes) (paid_writes f n bytes) s p

  -- words read
  abbrev ReadsPaid : Type 0
  ReadsPaid = (s : State) → P s → is_done (access_code s WordRead) ≡ true → Paid s (done s WordRead)

  paid_read : ReadsPaid → (s : State) → P s → Paid s (step s word_read)
  paid_read f s p = rw (step_read s) (paid_access s WordRead (f s p))

  paid_reads : ReadsPaid → (n : ℕ) → AllPaid (word_reads n)
  paid_reads f zero = tt
  paid_reads f (suc n) = (paid_read f, paid_reads f n)

  reads_sum : ReadsPaid → (s : State) → P s → (n : ℕ) → moves_until s (word_reads n) ≤ worth s + each * (strung s (word_reads n)).done
  reads_sum f s p n = paid_sum (word_reads n) (paid_reads f n) s p

-- no more are done than there are
done_then : (r : Stepped) (x : Strung) (n : ℕ) → x.done ≤ n → (one_then r x).done ≤ suc n
unfolding one_then stopped one_done
done_then r x n h = cond_case (λ (y : Strung). y.done ≤ suc n) (is_refusal r.code) _ _ (λ e. omega arith) (λ e. omega arith)

done_few : (s : State) (records : List (List ℕ)) → (strung s records).done ≤ length records
unfolding strung strung_none
done_few s [] = omega arith
done_few s (bytes ∷ more) =
    let t = (step s bytes).state in
    done_then (step s bytes) (strung t more) (length more) (done_few t more)

writes_length : (n : ℕ) (bytes : List ℕ) → length (word_writes n bytes) ≡ n
writes_length zero bytes = refl
writes_length (suc n) bytes = ap suc (writes_length n (drop 2 bytes))

-- in range and at rest
abbrev Ready : State → Type 0
Ready s = InRange s × AtRest s

ready : (s : State) (bytes : List ℕ) → Ready s → Ready (step s bytes).state
ready s bytes k = (step_in_range s bytes k.0, step_rests s bytes k.0 k.1)

-- THE CEILINGS, whatever the number of words and the bytes
module _ (s : State) (i : InRange s) (n : ℕ) where
  -- WRITING: the host FIFO's count before it, and two for each word done
  pub write_ceiling_lem : (bytes : List ℕ) → moves_until s (word_writes n bytes) ≤ write_ceiling s (strung s (word_writes n bytes)).done
  write_ceiling_lem bytes =
      omega (arith, writes_sum InRange step_in_range (λ x. length x.transfer.host) 2 paid s i n bytes)
    where
      paid : WritesPaid InRange step_in_range (λ x. length x.transfer.host) 2
      paid x word f j d = omega (arith, written_moves x word j.transfer.scsi d)

  -- and never above 16 for each word done
  pub write_sixteen : (bytes : List ℕ) → moves_until s (word_writes n bytes) ≤ word_ceiling (strung s (word_writes n bytes)).done
  write_sixteen bytes = omega (arith, writes_sum InRange step_in_range (λ x. 0) 16 paid s i n bytes)
    where
      paid : WritesPaid InRange step_in_range (λ x. 0) 16
      paid x word f j d = omega (arith, (done_fits x (WordWrite word) f d j).moves)

  -- from a chip at rest, two for each word done
  pub write_at_rest : AtRest s → (bytes : List ℕ) → moves_until s (word_writes n bytes) ≤ rest_ceiling (strung s (word_writes n bytes)).done
  write_at_rest r bytes = omega (arith, writes_sum Ready ready (λ x. 0) 2 paid s (i, r) n bytes)
    where
      paid : WritesPaid Ready ready (λ x. 0) 2
      paid x word f k d = omega (arith, rest_moves x word k.0.transfer.scsi d k.1 k.0.quiet)

  -- READING: 9, for the 8 bytes that the SCSI FIFO holds at most and one more
  pub read_ceiling_lem : moves_until s (word_reads n) ≤ read_ceiling
  read_ceiling_lem =
      let sum = reads_sum InRange step_in_range (λ x. owed x.transfer) 0 paid s i n in
      omega (arith, sum, i.transfer.scsi, one_fits (not s.transfer.ack))
    where
      paid : ReadsPaid InRange step_in_range (λ x. owed x.transfer) 0
      paid x j d = omega (arith, read_moves_lem x j.transfer.scsi d)

-- THE SAME OVER THE CALLS, whatever their buffers: where these do not fit there is no word, no move and nothing done
module _ (s : State) (i : InRange s) (words : ℕ) (buffer : List ℕ) where
  module _ (bytes : List ℕ) where
    abbrev all : Strung
    all = strung s (word_writes words bytes)

    abbrev wrote : Wrote
    wrote = written_words s bytes words buffer

    abbrev moves : ℕ
    moves = write_moves s bytes words (length buffer)

    -- what holds of the words one after another, and of none, holds of the call
    write_call : (Q : ℕ → ℕ → Type 0) → Q (moves_until s (word_writes words bytes)) all.done → Q 0 0 → Q moves wrote.done
    unfolding write_moves written_words wrote_of not_written
    write_call Q q none = go (writable (length bytes) words (length buffer))
      where
        go : (b : Bool) → Q (cond b (moves_until s (word_writes words bytes)) 0) (cond b (wrote_of all buffer) (not_written s buffer)).done
        go true = q
        go false = none

    pub write_call_ceiling : moves ≤ write_ceiling s wrote.done
    write_call_ceiling =
        write_call (λ m d. m ≤ write_ceiling s d) (write_ceiling_lem s i words bytes) (omega arith)

    pub write_call_sixteen : moves ≤ word_ceiling wrote.done
    write_call_sixteen = write_call (λ m d. m ≤ word_ceiling d) (write_sixteen s i words bytes) (omega arith)

    pub write_call_at_rest : AtRest s → moves ≤ rest_ceiling wrote.done
    write_call_at_rest r = write_call (λ m d. m ≤ rest_ceiling d) (write_at_rest s i words r bytes) (omega arith)

  pub read_call_ceiling : read_moves s words (length buffer) ≤ read_ceiling
  unfolding read_moves
  read_call_ceiling =
      cond_case (λ (m : ℕ). m ≤ read_ceiling) (readable (length buffer) words) _ _ (λ b. read_ceiling_lem s i words) (λ b. omega arith)

-- NO MORE WORDS ARE DONE THAN ASKED FOR, from any state
module _ (s : State) (words : ℕ) (buffer : List ℕ) where
  pub write_call_done : (bytes : List ℕ) → (written_words s bytes words buffer).done ≤ words
  unfolding written_words wrote_of not_written
  write_call_done bytes =
      cond_case (λ (x : Wrote). x.done ≤ words) (writable (length bytes) words (length buffer)) _ _
      (λ b. omega (arith, done_few s (word_writes words bytes), writes_length words bytes)) (λ b. omega arith)

  pub read_call_done : (fetched_words s words buffer).done ≤ words
  unfolding fetched_words fetched_of not_fetched
  read_call_done =
      cond_case (λ (x : Fetched). x.done ≤ words) (readable (length buffer) words) _ _
      (λ b. omega (arith, done_few s (word_reads words), length-replicate words word_read)) (λ b. omega arith)

-- EVERY CHIP REACHED FROM POWER RESET IS AT REST: there a write call makes two moves at most for each word done
module _ (records : List (List ℕ)) (bytes : List ℕ) (words : ℕ) (buffer : List ℕ) where
  abbrev reached : State
  reached = after power_reset records

  pub write_call_reached : write_moves reached bytes words (length buffer) ≤ rest_ceiling (written_words reached bytes words buffer).done
  write_call_reached =
      write_call_at_rest reached (always_in_range records) words buffer bytes (always_at_rest records)
