-- What words leave: a chip in range and at rest, its port as open as before.
use Prim.Native.Nat.{ℕ, suc, ◌+◌, ◌*◌, ◌<◌}
use mathlib.Core.Path.{◌≡◌, refl, sym, ◌∙◌, ap, subst}
use mathlib.Core.Bool.{Bool, true, false, not, ◌||◌, cond, beq}
use mathlib.Core.List.{List, [], ◌∷◌}
use native.Mathlib.Omega.{arith}
use lib.ListN.{get_or}
use Rattle.rules.specs.Rest.{AtRest}
use Rattle.rules.specs.State.{State}
use Rattle.rules.specs.Ranges.{Bytes, EventFits, InRange}
use Rattle.rules.specs.Events.{writes, lines_after}
use Rattle.rules.specs.Codes.{access_code, is_done, is_refusal, refused_value}
use Rattle.rules.specs.Answers.{Stepped}
use Rattle.rules.specs.StepA.{registers_a, after_a}
use Rattle.rules.specs.StepD.{finished, after_d}
use Rattle.rules.specs.Step.{ended, refused, done, access, step}
use Rattle.rules.specs.declared.registers.Dmacntrl0.{Dmacntrl0}
use Rattle.rules.specs.declared.registers.Registers.{Registers}
use Rattle.rules.specs.declared.codes.Code.TheVariants.{Done, BeyondLimit}
use Rattle.rules.specs.declared.records.Event.TheVariants.{WordWrite, WordRead}
use Rattle.rules.specs.declared.records.Event.{Event}
use Rattle.rules.proofs.Logic.{never, cond_case}
use Rattle.rules.proofs.InOrder.{Apart, b_leaves}
use Rattle.rules.proofs.Refusals.{not_beyond}
use Rattle.rules.proofs.Ranges.{after_b_fits}
use Rattle.rules.proofs.Still.{done_rests}
use Rattle.words.specs.Words.{Strung, strung_none, stopped, one_done, one_then, strung, word_write, word_read}
use Rattle.words.proofs.Port.{word_written_lem, word_read_lem}
use Rattle.words.proofs.Accesses.{shut_to_words, step_write, step_read, write_or_refused, read_or_refused, write_found_open, read_found_open}

-- each element of a list of bytes is one
pub by_elements : (l : List ℕ) → ((k : ℕ) → get_or l k 0 < 256) → Bytes l
by_elements [] f = tt
by_elements (b ∷ l) f = (f 0, by_elements l (λ k. f (suc k)))

-- what every step keeps, records keep up to the first refusal
module _ (P : State → Type 0) (steps : (s : State) (bytes : List ℕ) → P s → P (step s bytes).state) where
  then_keeps : (r : Stepped) (rest : Strung) → P r.state → P rest.state → P (one_then r rest).state
  unfolding one_then stopped one_done
  then_keeps r rest p q = cond_case (λ (x : Strung). P x.state) (is_refusal r.code) (stopped r) (one_done r rest) (λ e. p) (λ e. q)

  pub strung_keeps : (s : State) (records : List (List ℕ)) → P s → P (strung s records).state
  unfolding strung strung_none
  strung_keeps s [] p = p
  strung_keeps s (bytes ∷ more) p =
      let q = steps s bytes p in
      then_keeps (step s bytes) (strung (step s bytes).state more) q (strung_keeps (step s bytes).state more q)

-- B, C and D leave 352h as it was
port_kept : (s : State) (e : Event) → (after_a s e).registers.dmacntrl0 ≡ s.registers.dmacntrl0 → (after_d s e).registers.dmacntrl0 ≡ s.registers.dmacntrl0
unfolding after_d finished
port_kept s e h = ap (λ (a : Apart). a.control) (b_leaves s e) ∙ h

-- only 352h shuts the port
same_shut : (read : Bool) (r q : Registers) → q.dmacntrl0 ≡ r.dmacntrl0 → shut_to_words read q ≡ shut_to_words read r
unfolding shut_to_words
same_shut read r q e =
    ap (λ (d : Dmacntrl0). not d.endma || d.dma || beq d.eightbit true || beq d.write read) e

-- a word that is done, from any chip in range: it leaves one at rest, 352h as it was
pub record WordDone (s : State) (r : Stepped) : Type 0 where
  pub rest : AtRest r.state
  pub port : r.state.registers.dmacntrl0 ≡ s.registers.dmacntrl0
  pub code : r.code ≡ Done

module _ (s : State) (e : Event) (f : EventFits e) (i : InRange s) (a : (after_a s e).registers.dmacntrl0 ≡ s.registers.dmacntrl0) (l : lines_after e s.lines ≡ s.lines) where
  done_word : is_done (access_code s e) ≡ true → WordDone s (done s e)
  unfolding done
  done_word d =
      record {
        rest = done_rests s e (after_b_fits s e f d i);
        port = port_kept s e a;
        code = ap (λ (b : Bool). cond b BeyondLimit Done) (not_beyond s e l);
      }

  done_checks : is_done (access s e).code ≡ true → is_done (access_code s e) ≡ true
  unfolding access ended
  done_checks = go (is_done (access_code s e)) refl
    where
      go : (b : Bool) → is_done (access_code s e) ≡ b → is_done (cond b (done s e) (refused s (access_code s e) (refused_value e))).code ≡ true → is_done (access_code s e) ≡ true
      go true p q = p
      go false p q = q

  access_word : is_done (access s e).code ≡ true → WordDone s (access s e)
  unfolding access ended
  access_word =
      cond_case (λ (r : Stepped). is_done r.code ≡ true → WordDone s r) (is_done (access_code s e)) (done s e) (refused s (access_code s e) (refused_value e))
      (λ d q. done_word d) (λ d q. absurd (never (sym d ∙ q)))

  -- and one that is not done is refused, the chip as it was
  access_stopped : (is_done (access_code s e) ≡ false → is_refusal (access_code s e) ≡ true) → is_done (access s e).code ≡ false
      → is_refusal (access s e).code ≡ true
  unfolding access ended
  access_stopped g =
      cond_case (λ (r : Stepped). is_done r.code ≡ false → is_refusal r.code ≡ true) (is_done (access_code s e)) (done s e) (refused s (access_code s e) (refused_value e))
      (λ d q. absurd (never (sym q ∙ ap is_done (done_word d).code))) (λ d q. g d)

same_port : (word : ℕ) (s : State) → (after_a s (WordWrite word)).registers.dmacntrl0 ≡ s.registers.dmacntrl0
unfolding after_a registers_a writes
same_port word s = refl

same_port_read : (s : State) → (after_a s WordRead).registers.dmacntrl0 ≡ s.registers.dmacntrl0
unfolding after_a registers_a writes
same_port_read s = refl

-- A WORD WRITTEN to any chip in range is done, or refused
module _ (s : State) (i : InRange s) (low high : ℕ) (a : low < 256) (b : high < 256) where
  pub write_is_done : is_done (step s (word_write low high)).code ≡ true → WordDone s (step s (word_write low high))
  write_is_done =
      let word = high * 256 + low in
      subst (λ (r : Stepped). is_done r.code ≡ true → WordDone s r) (sym (step_write s low high a b))
      (access_word s (WordWrite word) (omega arith) i (same_port word s) (word_written_lem word s).lines)

  pub write_leaves_open : is_done (step s (word_write low high)).code ≡ true → shut_to_words false (step s (word_write low high)).state.registers ≡ false
  write_leaves_open h =
      let word = high * 256 + low in
      same_shut false s.registers (step s (word_write low high)).state.registers (write_is_done h).port
      ∙ write_found_open s i.transfer.host word
      (done_checks s (WordWrite word) (omega arith) i (same_port word s) (word_written_lem word s).lines (sym (ap (λ (r : Stepped). is_done r.code) (step_write s low high a b)) ∙ h))

  pub write_is_stopped : is_done (step s (word_write low high)).code ≡ false → is_refusal (step s (word_write low high)).code ≡ true
  write_is_stopped =
      let word = high * 256 + low in
      subst (λ (r : Stepped). is_done r.code ≡ false → is_refusal r.code ≡ true) (sym (step_write s low high a b))
      (access_stopped s (WordWrite word) (omega arith) i (same_port word s) (word_written_lem word s).lines (write_or_refused s i.transfer.host word))

-- A WORD READ
module _ (s : State) (i : InRange s) where
  pub read_is_done : is_done (step s word_read).code ≡ true → WordDone s (step s word_read)
  read_is_done =
      subst (λ (r : Stepped). is_done r.code ≡ true → WordDone s r) (sym (step_read s))
      (access_word s WordRead tt i (same_port_read s) (word_read_lem s).lines)

  pub read_leaves_open : is_done (step s word_read).code ≡ true → shut_to_words true (step s word_read).state.registers ≡ false
  read_leaves_open h =
      same_shut true s.registers (step s word_read).state.registers (read_is_done h).port
      ∙ read_found_open s i.transfer.host (done_checks s WordRead tt i (same_port_read s) (word_read_lem s).lines (sym (ap (λ (r : Stepped). is_done r.code) (step_read s)) ∙ h))

  pub read_is_stopped : is_done (step s word_read).code ≡ false → is_refusal (step s word_read).code ≡ true
  read_is_stopped =
      subst (λ (r : Stepped). is_done r.code ≡ false → is_refusal r.code ≡ true) (sym (step_read s))
      (access_stopped s WordRead tt i (same_port_read s) (word_read_lem s).lines (read_or_refused s i.transfer.host))
