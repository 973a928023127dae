-- Two blocks of a chip at rest settle as one, and leave what it leaves.
use Prim.Native.Nat.{ℕ, zero, suc, ◌+◌, ◌≤◌}
use mathlib.Core.Path.{◌≡◌, refl, sym, ◌∙◌, ap}
use mathlib.Core.Bool.{Bool, true, false, not, ◌&&◌, ◌||◌, cond, beq}
use mathlib.Core.List.{List, ◌++◌}
use native.Mathlib.Omega.{arith}
use native.Mathlib.Nat.{zero-add}
use lib.Dec.{ltb}
use lib.ListN.{length, drop}
use borrow.Author.Tests.{lt-ltb}
use Rattle.rules.specs.Rest.{AtRest}
use Rattle.rules.specs.State.{State, Transfer}
use Rattle.rules.specs.Changed.{with_transfer}
use Rattle.rules.specs.Ranges.{TransferFits}
use Rattle.rules.specs.Seen.{ack_driven, ack_seen, bsy_seen, byte_driven, byte_driving, cd_seen, connected, data_driven, data_seen, io_seen, matched, msg_seen, normal, path, rst_seen, sel_seen, synchronous}
use Rattle.rules.specs.StepC.{Settling, conditions, turns, started}
use Rattle.rules.specs.StepD.{status_d, finished}
use Rattle.rules.specs.declared.chip.Conditions.{Conditions}
use Rattle.rules.specs.declared.chip.Status.{Status}
use Rattle.rules.proofs.Logic.{never, left_true, right_true}
use Rattle.rules.proofs.Rest.{settle_rests}
use Rattle.rules.proofs.Still.{finished_still}
use Rattle.words.specs.Blocks.{settled_with, together, block_settled, block_left, seeing}
use Rattle.words.proofs.Port.{ack_stays, block_finished}
use Rattle.words.proofs.Outbound.{outbound_joins, outbound_byte}
use Rattle.words.proofs.Inbound.{inbound_joins, inbound_byte}

-- a block changes nothing that settling looks at, but the byte that the chip drives
conditions_after : (s : State) (h : List ℕ) → conditions (block_left s h) ≡ seeing (data_seen (block_left s h)) (conditions s)
unfolding conditions block_left matched connected rst_seen sel_seen bsy_seen synchronous
conditions_after s h = refl

-- REQINIT after two blocks is as after both at once
either : (a b : ℕ) → ltb 0 (a + b) ≡ (ltb 0 a || ltb 0 b)
either zero b = ap (ltb 0) (zero-add b)
either (suc a) b = rw (lt-ltb 0 (suc a) (omega arith)) (lt-ltb 0 (suc a + b) (omega arith))

falls : (p q first second x : Bool) → (first ≡ true → second ≡ true)
    → (not q && not second && (not p && not first && x)) ≡ (not (p || q) && not second && x)
falls true true first second x f = refl
falls true false first true x f = refl
falls true false first false x f = refl
falls false true first second x f = refl
falls false false first true x f = refl
falls false false true false x f = absurd (never (f refl))
falls false false false false x f = refl

status_joins : (a b : ℕ) (first second : Bool) (t : Status) → (first ≡ true → second ≡ true)
    → status_d b second (status_d a first t) ≡ status_d (a + b) second t
unfolding status_d
status_joins a b first second t f =
    λ i.
    record {
      spiordy = t.spiordy;
      scsirsti = t.scsirsti;
      busfree = t.busfree;
      scsiperr = t.scsiperr;
      phasechg = t.phasechg;
      reqinit = (falls (ltb 0 a) (ltb 0 b) first second t.reqinit f ∙ ap (λ (p : Bool). not p && not second && t.reqinit) (sym (either a b))) i;
      syncerr = t.syncerr;
      fwerr = t.fwerr;
    }

module _ (s : State) where
  -- ACK that is seen after one block is seen after the next
  seen_stays : (t u : Transfer) → (t.ack ≡ true → u.ack ≡ true) → ack_seen (with_transfer t s) ≡ true → ack_seen (with_transfer u s) ≡ true
  unfolding ack_seen ack_driven
  seen_stays t u f = go s.lines.ack t.ack u.ack _ f
    where
      go : (l a b m : Bool) → (a ≡ true → b ≡ true) → (l || (a || m)) ≡ true → (l || (b || m)) ≡ true
      go true a b m f e = refl
      go false true true m f e = refl
      go false true false m f e = absurd (never (f refl))
      go false false true m f e = refl
      go false false false m f e = e

  -- where two blocks settle as one, they leave what it leaves
  pub left_joins : (first second both : List ℕ) → together (block_settled s first) (block_settled (block_left s first) second) ≡ block_settled s both
      → block_left (block_left s first) second ≡ block_left s both
  unfolding block_left settled_with ack_seen ack_driven
  left_joins first second both e =
      let a = block_settled s first in
      let b = block_settled (block_left s first) second in
      λ i.
      record {
        lines = s.lines;
        registers = s.registers;
        transfer = (e i).transfer;
        status =
            (status_joins a.acks b.acks (ack_seen (with_transfer a.transfer s)) (ack_seen (with_transfer b.transfer s)) s.status
            (seen_stays a.transfer b.transfer (ack_stays _ turns _))
            ∙ ap (λ (z : Settling). status_d z.acks (ack_seen (with_transfer z.transfer s)) s.status) e)
            i;
        latches = s.latches;
        stack = s.stack;
        keptbad = s.keptbad;
        quiet = s.quiet;
        identity = s.identity;
        sequencer = s.sequencer;
      }

  -- inbound with handshakes IO is seen, so the chip drives no byte
  inbound_seen : (write expected io : Bool) → write ≡ false → not (beq write expected) ≡ true → beq io expected ≡ true → io ≡ true
  inbound_seen true expected io w p m = absurd (never (sym w))
  inbound_seen false true io w p m = beq_true io m
    where
      beq_true : (b : Bool) → beq b true ≡ true → b ≡ true
      beq_true true e = refl
      beq_true false e = e
  inbound_seen false false io w p m = absurd (never p)

  io_seen_lem : (conditions s).enabled ≡ true → (conditions s).outbound ≡ false → io_seen s ≡ true
  unfolding conditions path matched
  io_seen_lem e o =
      let r = s.registers in
      let g = r.scsisig in
      let way = right_true r.sxfrctl0.scsien (path r) (left_true (r.sxfrctl0.scsien && path r) (matched s) e) in
      let met = right_true (r.sxfrctl0.scsien && path r) (matched s) e in
      inbound_seen r.dmacntrl0.write g.ioexp (io_seen s) o
      (right_true (normal r) (not (beq r.dmacntrl0.write g.ioexp)) way)
      (right_true (connected s && beq (cd_seen s) g.cdexp) (beq (io_seen s) g.ioexp)
      (left_true (connected s && beq (cd_seen s) g.cdexp && beq (io_seen s) g.ioexp) (beq (msg_seen s) g.msgexp) met))

undriven : (s : State) → io_seen s ≡ true → byte_driven s ≡ 0
unfolding byte_driven byte_driving
undriven s e = ap (λ (b : Bool). cond b (cond (normal s.registers) s.transfer.last s.registers.scsidat) 0) (none (connected s) (io_seen s) _ e)
  where
    none : (c io d : Bool) → io ≡ true → (c && not io && d) ≡ false
    none true true d e = refl
    none false true d e = refl
    none c false d e = absurd (never e)

module _ (s : State) where
  same_byte : (h : List ℕ) → (conditions s).enabled ≡ true → (conditions s).outbound ≡ false → data_seen (block_left s h) ≡ data_seen s
  unfolding data_seen data_driven block_left
  same_byte h e o = rw (undriven s (io_seen_lem s e o), undriven (block_left s h) (io_seen_lem s e o))

  abbrev after : List ℕ → State
  after h = block_left s h

  abbrev Settles : List ℕ → List ℕ → Type 0
  Settles h more = block_settled (after h) more ≡ settled_with (conditions s) more (block_settled s h).transfer

  settles_out : (h more : List ℕ) → (conditions s).outbound ≡ true → Settles h more
  unfolding block_left settled_with
  settles_out h more o =
      ap (λ (c : Conditions). settled_with c more (block_settled s h).transfer) (conditions_after s h)
      ∙ outbound_byte (data_seen (after h)) (conditions s) turns _ o

  settles_in : (h more : List ℕ) → (conditions s).outbound ≡ false → Settles h more
  unfolding block_left settled_with conditions
  settles_in h more o = go (conditions s).enabled refl
    where
      go : (b : Bool) → (conditions s).enabled ≡ b → Settles h more
      go true e =
          ap (λ (c : Conditions). settled_with c more (block_settled s h).transfer) (conditions_after s h)
          ∙ ap (λ (b : ℕ). settled_with (seeing b (conditions s)) more (block_settled s h).transfer) (same_byte h e o)
      go false e =
          ap (λ (c : Conditions). settled_with c more (block_settled s h).transfer) (conditions_after s h)
          ∙ inbound_byte (data_seen (after h)) (conditions s) turns _ e

  -- two parts of words settle as one block
  module _ (fits : TransferFits s.transfer) where
    abbrev host : List ℕ
    host = s.transfer.host

    pub joins_out : (first second : List ℕ) → (conditions s).outbound ≡ true
        → together (block_settled s (host ++ first)) (block_settled (after (host ++ first)) ((after (host ++ first)).transfer.host ++ second)) ≡ block_settled s (host ++ (first ++ second))
    unfolding block_left
    joins_out first second o =
        ap (together (block_settled s (host ++ first))) (settles_out (host ++ first) ((block_settled s (host ++ first)).transfer.host ++ second) o)
        ∙ outbound_joins (conditions s) s.transfer first second o fits.scsi fits.offset

    pub joins_in : (j k : ℕ) → (conditions s).outbound ≡ false → j + k ≤ length host
        → together (block_settled s (drop j host)) (block_settled (after (drop j host)) (drop k (after (drop j host)).transfer.host)) ≡ block_settled s (drop (j + k) host)
    unfolding block_left
    joins_in j k o h =
        ap (together (block_settled s (drop j host))) (settles_in (drop j host) (drop k (block_settled s (drop j host)).transfer.host) o)
        ∙ inbound_joins (conditions s) s.transfer j k o fits.scsi fits.offset h

-- a block of nothing leaves a chip at rest as it is
module _ (s : State) (r : AtRest s) where
  pub none_settles : block_settled s s.transfer.host ≡ started s
  unfolding settled_with started
  none_settles = settle_rests (conditions s) turns (started s) r.resting

  pub none_left : block_left s s.transfer.host ≡ s
  none_left = sym (block_finished s r s.transfer.host) ∙ ap (λ (c : Settling). finished s s s c) none_settles ∙ finished_still s r
