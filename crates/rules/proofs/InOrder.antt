-- B goes in five steps: what the changes that they make keep, B keeps. The proofs by `search` take the steps in whatever order.
use Prim.Native.Nat.{ℕ}
use mathlib.Core.Path.{◌≡◌, refl, ap, sym, ◌∙◌}
use mathlib.Core.Bool.{Bool, true, false, cond}
use mathlib.Core.List.{List, [], ◌++◌, append-nil}
use lib.Dec.{ltb}
use Rattle.rules.specs.State.{State}
use Rattle.rules.specs.Changed.{with_quiet}
use Rattle.rules.specs.Seen.{rst_seen}
use Rattle.rules.specs.Events.{ticks_of}
use Rattle.rules.specs.StepA.{after_a}
use Rattle.rules.specs.StepB.{req_falls, ack_released, after_req_falls, rst_rises, bus_reset, after_rst_rises, req_rises, stored_byte, req_risen, after_req_rises, quiet_after, bus_free, bus_freed, after_quiet_ticks, phase_changes, phase_changed, after_phase_changes, after_sequencer, first_four, in_order, after_b, at_req}
use Rattle.rules.specs.declared.registers.Dmacntrl0.{Dmacntrl0}
use Rattle.rules.specs.declared.records.Lines.{Lines}
use Rattle.rules.specs.declared.records.Event.{Event}
use Rattle.rules.proofs.Logic.{cond_case}

-- a step makes its change or leaves the state as it is
module _ (P : State → Type 0) (last n : State) (p : P n) where
  pub falls_keeps : (P n → P (ack_released n)) → P (after_req_falls last n)
  unfolding after_req_falls
  falls_keeps f = cond_case P (req_falls last n) (ack_released n) n (λ h. f p) (λ h. p)

  reset_keeps : (P n → P (bus_reset n)) → P (after_rst_rises last n)
  unfolding after_rst_rises
  reset_keeps f = cond_case P (rst_rises last n) (bus_reset n) n (λ h. f p) (λ h. p)

  rises_keeps : (P n → P (req_risen n)) → P (after_req_rises last n)
  unfolding after_req_rises
  rises_keeps f = cond_case P (req_rises last n) (req_risen n) n (λ h. f p) (λ h. p)

  phase_keeps : (P n → P (phase_changed n)) → P (after_phase_changes last n)
  unfolding after_phase_changes
  phase_keeps f = cond_case P (phase_changes last n) (phase_changed n) n (λ h. f p) (λ h. p)

-- the quiet ticks are counted in any case
ticks_make : (P : State → Type 0) → ((n : State) → P n → P (bus_freed n)) → (ticks : ℕ) (n : State) → P (with_quiet (quiet_after ticks n) n) → P (after_quiet_ticks ticks n)
unfolding after_quiet_ticks
ticks_make P f ticks n p =
    let ticked = with_quiet (quiet_after ticks n) n in
    cond_case P (bus_free ticks n) (bus_freed ticked) ticked (λ h. f ticked p) (λ h. p)

-- what every step but "REQ rises" keeps
pub record Spares (P : State → Type 0) : Type 0 where
  pub released : (n : State) → P n → P (ack_released n)
  pub reset : (n : State) → P n → P (bus_reset n)
  pub ticked : (n : State) (ticks : ℕ) → P n → P (with_quiet (quiet_after ticks n) n)
  pub freed : (n : State) → P n → P (bus_freed n)
  pub sequenced : (n : State) (tick : Bool) (before : ℕ) → P n → P (after_sequencer tick before n)
  pub changed : (n : State) → P n → P (phase_changed n)

module _ (P : State → Type 0) (k : Spares P) (s : State) (e : Event) where
  falls : (n : State) → P n → P (after_req_falls s n)
  falls n p = falls_keeps P s n p (k.released n)

  resets : (n : State) → P n → P (after_rst_rises s n)
  resets n p = reset_keeps P s n p (k.reset n)

  ticks : (n : State) → P n → P (after_quiet_ticks (ticks_of e) n)
  ticks n p = ticks_make P k.freed (ticks_of e) n (k.ticked n (ticks_of e) p)

  sequences : (n : State) → P n → P (after_sequencer (ltb 0 (ticks_of e)) s.quiet n)
  sequences n p = k.sequenced n (ltb 0 (ticks_of e)) s.quiet p

  phase : (n : State) → P n → P (after_phase_changes s n)
  phase n p = phase_keeps P s n p (k.changed n)

  pub before_req : P (after_a s e) → P (at_req s e)
  unfolding at_req
  before_req p = search (falls, resets, ticks, phase) depth 7

  pub after_req : P (after_req_rises s (at_req s e)) → P (after_b s e)
  unfolding at_req after_b in_order first_four
  after_req p = search (falls, resets, ticks, sequences, phase) depth 8

-- what every step keeps
pub record Keeps (P : State → Type 0) : Type 0 where
  pub released : (n : State) → P n → P (ack_released n)
  pub reset : (n : State) → P n → P (bus_reset n)
  pub risen : (n : State) → P n → P (req_risen n)
  pub ticked : (n : State) (ticks : ℕ) → P n → P (with_quiet (quiet_after ticks n) n)
  pub freed : (n : State) → P n → P (bus_freed n)
  pub sequenced : (n : State) (tick : Bool) (before : ℕ) → P n → P (after_sequencer tick before n)
  pub changed : (n : State) → P n → P (phase_changed n)

module _ (P : State → Type 0) (k : Keeps P) where
  spares : Spares P
  spares =
      record {
        released = k.released;
        reset = k.reset;
        ticked = k.ticked;
        freed = k.freed;
        sequenced = k.sequenced;
        changed = k.changed;
      }

  -- the four steps before the sequencer, from any state
  pub four_keep : (last : State) (ticks : ℕ) (now : State) → P now → P (first_four last ticks now)
  unfolding first_four
  four_keep last ticks now p =
      let a = after_req_falls last now in
      let b = after_rst_rises last a in
      let d = after_req_rises last b in
      let fallen : P a = falls_keeps P last now p (k.released now) in
      let reset : P b = reset_keeps P last a fallen (k.reset a) in
      let risen : P d = rises_keeps P last b reset (k.risen b) in
      ticks_make P k.freed ticks d (k.ticked d ticks risen)

  module _ (s : State) (e : Event) where
    rises : (n : State) → P n → P (after_req_rises s n)
    rises n p = rises_keeps P s n p (k.risen n)

    -- B KEEPS WHAT ITS CHANGES KEEP
    pub b_keeps : P (after_a s e) → P (after_b s e)
    b_keeps p = after_req P spares s e (rises (at_req s e) (before_req P spares s e p))

    -- what the count of the quiet ticks makes so
    pub ticks_leave_lem : ((ticks : ℕ) (n : State) → P (with_quiet (quiet_after ticks n) n)) → P (after_b s e)
    unfolding after_b in_order first_four
    ticks_leave_lem made =
        search (ticked, falls P spares s e, resets P spares s e, rises, sequences P spares s e, phase P spares s e) depth 8
      where
        ticked : (n : State) → P (after_quiet_ticks (ticks_of e) n)
        ticked n = ticks_make P k.freed (ticks_of e) n (made (ticks_of e) n)

-- RST, once it is seen to rise, is so to the end of B
rising : (s : State) → Spares (λ n. rst_rises s n ≡ true)
unfolding rst_rises rst_seen ack_released bus_reset bus_freed after_sequencer phase_changed
rising s =
    record {
      released = λ n h. h;
      reset = λ n h. h;
      ticked = λ n ticks h. h;
      freed = λ n h. h;
      sequenced = λ n tick before h. h;
      changed = λ n h. h;
    }

-- what a bus reset makes so
module _ (P : State → Type 0) (k : Keeps P) (s : State) (e : Event) (made : (n : State) → P (bus_reset n)) where
  makes : (n : State) → rst_rises s n ≡ true → P (after_rst_rises s n)
  unfolding after_rst_rises
  makes n r = rw r (made n)

  abbrev Rising : State → Type 0
  Rising n = rst_rises s n ≡ true

  made_before : rst_rises s (after_a s e) ≡ true → P (at_req s e)
  unfolding at_req
  made_before r =
      search (makes, falls P (spares P k) s e, ticks P (spares P k) s e, falls Rising (rising s) s e, ticks Rising (rising s) s e) depth 7

  pub reset_leaves : rst_rises s (after_a s e) ≡ true → P (after_b s e)
  reset_leaves r = after_req P (spares P k) s e (rises P k s e (at_req s e) (made_before r))

-- what no step changes
pub record Apart : Type 0 where
  pub lines : Lines
  pub control : Dmacntrl0
  pub dmaen : Bool
  pub spioen : Bool
  pub scsirsto : Bool
  pub host : List ℕ
  pub counter : ℕ

abbrev pub apart_of : State → Apart
apart_of s =
    record {
      lines = s.lines;
      control = s.registers.dmacntrl0;
      dmaen = s.registers.sxfrctl0.dmaen;
      spioen = s.registers.sxfrctl0.spioen;
      scsirsto = s.registers.scsiseq.scsirsto;
      host = s.transfer.host;
      counter = s.transfer.counter;
    }

apart : (a : Apart) → Keeps (λ n. apart_of n ≡ a)
unfolding ack_released bus_reset req_risen bus_freed after_sequencer phase_changed
apart a =
    record {
      released = λ n h. h;
      reset = λ n h. h;
      risen = λ n h. h;
      ticked = λ n ticks h. h;
      freed = λ n h. h;
      sequenced = λ n tick before h. h;
      changed = λ n h. h;
    }

-- bits that are cleared and never set
scsien_off : Keeps (λ n. n.registers.sxfrctl0.scsien ≡ false)
unfolding ack_released bus_reset req_risen bus_freed after_sequencer phase_changed
scsien_off =
    record {
      released = λ n h. h;
      reset = λ n h. refl;
      risen = λ n h. h;
      ticked = λ n ticks h. h;
      freed = λ n h. h;
      sequenced = λ n tick before h. h;
      changed = λ n h. h;
    }

acko_off : Keeps (λ n. n.registers.scsisig.acko ≡ false)
unfolding ack_released bus_reset req_risen bus_freed after_sequencer phase_changed
acko_off =
    record {
      released = λ n h. h;
      reset = λ n h. refl;
      risen = λ n h. h;
      ticked = λ n ticks h. h;
      freed = λ n h. refl;
      sequenced = λ n tick before h. h;
      changed = λ n h. h;
    }

pub ioexp_off : Keeps (λ n. n.registers.scsisig.ioexp ≡ false)
unfolding ack_released bus_reset req_risen bus_freed after_sequencer phase_changed
ioexp_off =
    record {
      released = λ n h. h;
      reset = λ n h. refl;
      risen = λ n h. h;
      ticked = λ n ticks h. h;
      freed = λ n h. refl;
      sequenced = λ n tick before h. h;
      changed = λ n h. h;
    }

-- the SCSI FIFO, which only "REQ rises" changes
abbrev Holding : List ℕ → State → Type 0
Holding l n = n.transfer.scsi ≡ l

holding : (l : List ℕ) → Spares (Holding l)
unfolding ack_released bus_reset bus_freed after_sequencer phase_changed
holding l =
    record {
      released = λ n h. h;
      reset = λ n h. h;
      ticked = λ n ticks h. h;
      freed = λ n h. h;
      sequenced = λ n tick before h. h;
      changed = λ n h. h;
    }

module _ (s : State) (e : Event) where
  pub b_leaves : apart_of (after_b s e) ≡ apart_of (after_a s e)
  b_leaves = b_keeps (λ n. apart_of n ≡ apart_of (after_a s e)) (apart (apart_of (after_a s e))) s e refl

  pub req_leaves : apart_of (at_req s e) ≡ apart_of (after_a s e)
  req_leaves =
      before_req (λ n. apart_of n ≡ apart_of (after_a s e)) (spares (λ n. apart_of n ≡ apart_of (after_a s e)) (apart (apart_of (after_a s e)))) s e refl

  pub scsien_stays : (after_a s e).registers.sxfrctl0.scsien ≡ false → (after_b s e).registers.sxfrctl0.scsien ≡ false
  scsien_stays = b_keeps (λ n. n.registers.sxfrctl0.scsien ≡ false) scsien_off s e

  pub acko_stays : (after_a s e).registers.scsisig.acko ≡ false → (after_b s e).registers.scsisig.acko ≡ false
  acko_stays = b_keeps (λ n. n.registers.scsisig.acko ≡ false) acko_off s e

  pub ioexp_stays : (after_a s e).registers.scsisig.ioexp ≡ false → (after_b s e).registers.scsisig.ioexp ≡ false
  ioexp_stays = b_keeps (λ n. n.registers.scsisig.ioexp ≡ false) ioexp_off s e

  -- the byte that a REQ stores
  abbrev pub stored_at_req : List ℕ
  stored_at_req = cond (req_rises s (at_req s e)) (stored_byte (at_req s e)) []

  scsi_risen : (after_req_rises s (at_req s e)).transfer.scsi ≡ (at_req s e).transfer.scsi ++ stored_at_req
  unfolding after_req_rises req_risen
  scsi_risen = go (req_rises s (at_req s e))
    where
      go : (b : Bool) → (cond b (req_risen (at_req s e)) (at_req s e)).transfer.scsi ≡ (at_req s e).transfer.scsi ++ cond b (stored_byte (at_req s e)) []
      go true = refl
      go false = sym (append-nil (at_req s e).transfer.scsi)

  pub scsi_b : (after_b s e).transfer.scsi ≡ (after_a s e).transfer.scsi ++ stored_at_req
  scsi_b =
      let l = (after_a s e).transfer.scsi in
      let m = (after_req_rises s (at_req s e)).transfer.scsi in
      after_req (Holding m) (holding m) s e refl ∙ scsi_risen
      ∙ ap (λ (x : List ℕ). x ++ stored_at_req) (before_req (Holding l) (holding l) s e refl)
