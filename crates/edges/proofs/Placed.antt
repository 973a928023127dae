-- Stores into the image of a state are the image of another.
use Prim.Native.Nat.{ℕ, ◌+◌, ◌<◌}
use mathlib.Core.Path.{◌≡◌, refl, ap, sym, ◌∙◌}
use mathlib.Core.Bool.{Bool, true, false, not, ◌&&◌, ◌||◌, cond}
use mathlib.Core.List.{List, [], ◌∷◌, ◌++◌, append_assoc}
use native.Mathlib.Omega.{arith}
use native.Mathlib.Nat.{zero-add, suc-add}
use lib.Dec.{eqb}
use lib.ListN.{length, get_or, set, length-append}
use lib.Seq.{set-append_left}
use Rattle.rules.specs.Numbers.{one, padded}
use Rattle.rules.specs.Registers.{scsiseq_of, scsiseq_byte, sxfrctl0_of, sxfrctl0_byte, scsisig_of}
use Rattle.rules.specs.State.{State}
use Rattle.rules.specs.declared.registers.Scsiseq.{Scsiseq}
use Rattle.rules.specs.declared.registers.Sxfrctl0.{Sxfrctl0}
use Rattle.rules.specs.declared.registers.Scsisig.{Scsisig}
use Rattle.rules.specs.declared.registers.Registers.{Registers}
use Rattle.rules.specs.declared.chip.Status.{Status}
use Rattle.edges.specs.declared.edges.Edges.{Edges}
use Rattle.rules.specs.Changed.{with_registers, with_status, with_quiet, with_sequencer}
use Rattle.rules.specs.Sequencer.{selection_freed}
use Rattle.rules.specs.declared.chip.Sequencer.{Sequencer}
use Rattle.image.specs.Image.{image_of, state_at, IsImage, head_of, scsisig_byte, sequencer_byte, status_of, status_byte}
use Rattle.laws.proofs.EightBits.{is_one}
use Rattle.registers.specs.Kept.{scsiseq_back, sxfrctl0_back}
use Rattle.image.proofs.ReadBack.{scsisig_back, status_back, phase_of_byte, noted_of_byte, statuses_of_byte}
use Rattle.image.specs.Layout.{ack_place, offset_place, quiet_place, scsi_bytes_place, scsi_count_place, scsiseq_place, scsisig_place, sequencer_place, status_place, sxfrctl0_place}
use Rattle.laws.proofs.Lists.{padded_push, padded_length}
use Rattle.edges.specs.Components.{scsiseq_b, sxfrctl0_b, scsisig_b, registers_b, transfer_b, stored_b, offset_b}
use Rattle.edges.specs.Room.{Room}
use Rattle.edges.specs.Stored.{registers_stored, offset_stored, status_stored, freed_stored}
use Rattle.datapath.specs.Fits.{byte_stored}
use Rattle.edges.proofs.Laws.{registers_kept}

-- what stands in the places of an image
module _ (s : State) where
  pub seq_at : scsiseq_of (get_or (image_of s) scsiseq_place 0) ≡ s.registers.scsiseq
  unfolding image_of
  seq_at = scsiseq_back s.registers.scsiseq

  control_at : sxfrctl0_of (get_or (image_of s) sxfrctl0_place 0) ≡ s.registers.sxfrctl0
  unfolding image_of
  control_at = sxfrctl0_back s.registers.sxfrctl0

  pub sig_at : scsisig_of false (get_or (image_of s) scsisig_place 0) ≡ s.registers.scsisig
  unfolding image_of
  sig_at = scsisig_back s.registers.scsisig

  status_at : status_of (get_or (image_of s) status_place 0) ≡ s.status
  unfolding image_of
  status_at = status_back s.status

  pub phase_at : (state_at (image_of s)).sequencer.phase ≡ s.sequencer.phase
  unfolding image_of state_at
  phase_at = phase_of_byte s.sequencer

  pub held_at : get_or (image_of s) scsi_count_place 0 ≡ length s.transfer.scsi
  unfolding image_of
  held_at = refl

  pub offset_at : get_or (image_of s) offset_place 0 ≡ s.transfer.offset
  unfolding image_of
  offset_at = refl

  ack_at : eqb (get_or (image_of s) ack_place 0) 1 ≡ s.transfer.ack
  unfolding image_of
  ack_at = is_one s.transfer.ack

-- the registers that B changes, in their places
registers_set : (s : State) (reset bad free : Bool) {q : Scsiseq} {x : Sxfrctl0} {g : Scsisig} → q ≡ s.registers.scsiseq → x ≡ s.registers.sxfrctl0 → g ≡ s.registers.scsisig → set (set (set (image_of s) scsiseq_place (scsiseq_byte (scsiseq_b reset q))) sxfrctl0_place (sxfrctl0_byte (sxfrctl0_b reset x))) scsisig_place (scsisig_byte (scsisig_b (reset || free) (bad && q.enautoatnp) g)) ≡ image_of (with_registers (registers_b reset bad free s.registers) s)
unfolding image_of registers_b
registers_set s reset bad free a b d = rw (a, b, d)

pub registers_placed : {m n : List ℕ} (reset bad free : Bool) (s : State) → m ≡ image_of s → n ≡ cond (reset || bad || free) (registers_stored reset bad free m) m → n ≡ image_of (with_registers (registers_b reset bad free s.registers) s)
registers_placed {m} {n} reset bad free s e f = by (reset || bad || free) refl f
  where
    by : (b : Bool) → (reset || bad || free) ≡ b → n ≡ cond b (registers_stored reset bad free m) m → n ≡ image_of (with_registers (registers_b reset bad free s.registers) s)
    by true d h =
        h ∙ ap (λ (l : List ℕ). registers_stored reset bad free l) e
        ∙ registers_set s reset bad free (seq_at s) (control_at s) (sig_at s)
    by false d h = h ∙ e ∙ ap (λ (r : Registers). image_of (with_registers r s)) (registers_kept reset bad free s.registers d)

-- a store past the front
set_past : (x q : List ℕ) (i b : ℕ) → set (x ++ q) (length x + i) b ≡ x ++ set q i b
set_past [] q i b = ap (λ (j : ℕ). set q j b) (zero-add i)
set_past (a ∷ x) q i b = rw (suc-add (length x) i, set_past x q i b)

-- the count of another list, with its bytes
scsi_image : (s : State) (b : ℕ) → set (head_of s ++ padded 8 (s.transfer.scsi ++ (b ∷ [])) ++ s.stack.bytes ++ padded 128 s.transfer.host) scsi_count_place (length (s.transfer.scsi ++ (b ∷ []))) ≡ image_of (stored_b true b s)
unfolding image_of
scsi_image s b = refl

regroup : (h p k l : List ℕ) → h ++ p ++ k ++ l ≡ h ++ (p ++ (k ++ l))
regroup h p k l = append_assoc (h ++ p) k l ∙ append_assoc h p (k ++ l)

scsi_split : (s : State) → image_of s ≡ head_of s ++ (padded 8 s.transfer.scsi ++ (s.stack.bytes ++ padded 128 s.transfer.host))
unfolding image_of
scsi_split s = regroup (head_of s) (padded 8 s.transfer.scsi) s.stack.bytes (padded 128 s.transfer.host)

head_length : (s : State) → length (head_of s) ≡ scsi_bytes_place
head_length s = refl

scsi_stored : (s : State) (b : ℕ) → length s.transfer.scsi < 8 → set (image_of s) (scsi_bytes_place + length s.transfer.scsi) b ≡ head_of s ++ padded 8 (s.transfer.scsi ++ (b ∷ [])) ++ s.stack.bytes ++ padded 128 s.transfer.host
scsi_stored s b h =
    let l : List ℕ = s.transfer.scsi in
    let z : List ℕ = s.stack.bytes ++ padded 128 s.transfer.host in
    let n : length (padded 8 l) ≡ 8 = padded_length 8 l (omega arith) in
    let k : length l < length (padded 8 l) = rw n h in
    ap (λ (m : List ℕ). set m (scsi_bytes_place + length l) b) (scsi_split s)
    ∙ ap (λ (j : ℕ). set (head_of s ++ (padded 8 l ++ z)) (j + length l) b) (sym (head_length s))
    ∙ set_past (head_of s) (padded 8 l ++ z) (length l) b
    ∙ ap (λ (y : List ℕ). head_of s ++ y) (set-append_left (padded 8 l) z (length l) b k ∙ ap (λ (p : List ℕ). p ++ z) (padded_push 8 l b h))
    ∙ sym (regroup (head_of s) (padded 8 (l ++ (b ∷ []))) s.stack.bytes (padded 128 s.transfer.host))

pub scsi_set : (s : State) (b : ℕ) → length s.transfer.scsi < 8 → set (set (image_of s) (scsi_bytes_place + length s.transfer.scsi) b) scsi_count_place (length s.transfer.scsi + 1) ≡ image_of (stored_b true b s)
scsi_set s b h =
    let l : List ℕ = s.transfer.scsi in
    let n : length l + 1 ≡ length (l ++ (b ∷ [])) = sym (length-append l (b ∷ [])) in
    ap (λ (m : List ℕ). set m scsi_count_place (length l + 1)) (scsi_stored s b h)
    ∙ ap (λ (j : ℕ). set (head_of s ++ padded 8 (l ++ (b ∷ [])) ++ s.stack.bytes ++ padded 128 s.transfer.host) scsi_count_place j) n
    ∙ scsi_image s b

abbrev stored_behind : ℕ → ℕ → List ℕ → List ℕ
stored_behind held b m = set (set m (scsi_bytes_place + held) b) scsi_count_place (held + 1)

pub held_of : (m : List ℕ) (s : State) → m ≡ image_of s → get_or m scsi_count_place 0 ≡ length s.transfer.scsi
held_of m s e = ap (λ (l : List ℕ). get_or l scsi_count_place 0) e ∙ held_at s

pub scsi_placed : {m n : List ℕ} (b : ℕ) (s : State) → get_or m scsi_count_place 0 < 8 → m ≡ image_of s → n ≡ byte_stored b m → n ≡ image_of (stored_b true b s)
scsi_placed {m} b s h e f =
    let k : get_or m scsi_count_place 0 ≡ length s.transfer.scsi = held_of m s e in
    let i : length s.transfer.scsi < 8 = rw k at h in
    f ∙ ap (λ (j : ℕ). stored_behind j b m) k ∙ ap (λ (l : List ℕ). stored_behind (length s.transfer.scsi) b l) e ∙ scsi_set s b i

stored_placed : {m n : List ℕ} (stored : Bool) (b : ℕ) (s : State) → (stored ≡ true → get_or m scsi_count_place 0 < 8) → m ≡ image_of s → n ≡ cond stored (byte_stored b m) m → n ≡ image_of (stored_b stored b s)
stored_placed true b s h e f = scsi_placed b s (h refl) e f
stored_placed false b s h e f = f ∙ e

-- the offset and the automatic ACK in their places
offset_set : (s : State) (zeroed within released : Bool) {o : ℕ} {k : Bool} → o ≡ s.transfer.offset → k ≡ s.transfer.ack → set (set (image_of s) offset_place (cond zeroed 0 (cond within (o + 1) o))) ack_place (one (not released && k)) ≡ image_of (offset_b zeroed within released s)
unfolding image_of
offset_set s zeroed within released a b = rw (a, b)

pub offsets_placed : {m n : List ℕ} (zeroed within released : Bool) (s : State) → m ≡ image_of s → n ≡ offset_stored zeroed within released m → n ≡ image_of (offset_b zeroed within released s)
offsets_placed zeroed within released s e f =
    f ∙ ap (λ (l : List ℕ). offset_stored zeroed within released l) e
    ∙ offset_set s zeroed within released (offset_at s) (ack_at s)

pub offset_of_lem : (m : List ℕ) (s : State) → m ≡ image_of s → get_or m offset_place 0 ≡ s.transfer.offset
offset_of_lem m s e = ap (λ (l : List ℕ). get_or l offset_place 0) e ∙ offset_at s

pub room_after : {m : List ℕ} (stored : Bool) (b : ℕ) (s : State) → m ≡ image_of (stored_b stored b s) → s.transfer.offset < 8 → get_or m offset_place 0 < 8
room_after {m} stored b s e h = rw (offset_of_lem m (stored_b stored b s) e) h

-- the SCSI FIFO's part of the data path: a byte that is stored has a place
module _ {g : Edges} {m : List ℕ} (byte : ℕ) (i : IsImage m) (room : Room g (state_at m).transfer) where
  pub place_of : g.stored ≡ true → get_or m scsi_count_place 0 < 8
  place_of h = rw (held_of m (state_at m) i.packed) (room.stored h)

  pub path_stored : {n : List ℕ} → n ≡ cond g.stored (byte_stored byte m) m → n ≡ image_of (stored_b g.stored byte (state_at m))
  path_stored = stored_placed g.stored byte (state_at m) place_of i.packed

-- both parts of the data path
pub path_parts : (g : Edges) (byte : ℕ) (s : State) → image_of (offset_b (g.rstrises || g.free) g.within (g.reqfalls || g.rstrises || g.free) (stored_b g.stored byte s)) ≡ image_of (transfer_b g byte s)
unfolding transfer_b
path_parts g byte s = refl

-- the status in its place, changed by a part of B
status_set : (s : State) (part : Status → Status) {t : Status} → t ≡ s.status → set (image_of s) status_place (status_byte (part t)) ≡ image_of (with_status (part s.status) s)
unfolding image_of
status_set s part a = rw a

pub status_placed : {m n : List ℕ} (part : Status → Status) (s : State) → m ≡ image_of s → n ≡ status_stored part m → n ≡ image_of (with_status (part s.status) s)
status_placed part s e f = f ∙ ap (λ (l : List ℕ). status_stored part l) e ∙ status_set s part (status_at s)

pub quiet_placed : (m : List ℕ) (n : ℕ) (s : State) → m ≡ image_of s → set m quiet_place n ≡ image_of (with_quiet n s)
unfolding image_of
quiet_placed m n s e = ap (λ (l : List ℕ). set l quiet_place n) e

-- the sequencer's byte, which the ticks are no part of
freed_byte : (p q : Sequencer) → p.phase ≡ q.phase → p.noted ≡ q.noted → p.status ≡ q.status → sequencer_byte (selection_freed p) ≡ sequencer_byte (selection_freed q)
unfolding selection_freed
freed_byte p q a b d = rw (a, b, d)

freed_read : (s : State) → sequencer_byte (selection_freed (state_at (image_of s)).sequencer) ≡ sequencer_byte (selection_freed s.sequencer)
unfolding image_of state_at
freed_read s =
    let q = s.sequencer in
    freed_byte (state_at (image_of s)).sequencer q (phase_of_byte q) (noted_of_byte q) (statuses_of_byte q)

freed_set : (s : State) (v : ℕ) → v ≡ sequencer_byte (selection_freed s.sequencer) → set (image_of s) sequencer_place v ≡ image_of (with_sequencer (selection_freed s.sequencer) s)
unfolding image_of selection_freed
freed_set s v a = rw a

pub freed_placed : {m n : List ℕ} (free : Bool) (s : State) → m ≡ image_of s → n ≡ freed_stored free m → n ≡ image_of (with_sequencer (cond free (selection_freed s.sequencer) s.sequencer) s)
freed_placed true s e f = f ∙ ap (freed_stored true) e ∙ freed_set s (sequencer_byte (selection_freed (state_at (image_of s)).sequencer)) (freed_read s)
freed_placed false s e f = f ∙ e

-- one REQ more, and the automatic ACK released
pub offset_placed : (m : List ℕ) (s : State) {offset : ℕ} → offset ≡ s.transfer.offset → m ≡ image_of s → set m offset_place (offset + 1) ≡ image_of (offset_b false true false s)
unfolding image_of
offset_placed m s e f = rw e (ap (λ (l : List ℕ). set l offset_place (s.transfer.offset + 1)) f)

pub ack_placed : (m : List ℕ) (s : State) → m ≡ image_of s → set m ack_place 0 ≡ image_of (offset_b false false true s)
unfolding image_of
ack_placed m s e = ap (λ (l : List ℕ). set l ack_place 0) e

-- a state that its image reads back as, with another status or other quiet ticks
status_read : (s : State) (t : Status) → state_at (image_of (with_status t s)) ≡ with_status t (state_at (image_of s))
unfolding image_of state_at
status_read s t = rw (status_back t)

pub status_kept : (s : State) (t : Status) → state_at (image_of s) ≡ s → state_at (image_of (with_status t s)) ≡ with_status t s
status_kept s t e = status_read s t ∙ ap (λ (x : State). with_status t x) e

quiet_read : (s : State) (n : ℕ) → state_at (image_of (with_quiet n s)) ≡ with_quiet n (state_at (image_of s))
unfolding image_of state_at
quiet_read s n = refl

pub quiet_kept : (s : State) (n : ℕ) → state_at (image_of s) ≡ s → state_at (image_of (with_quiet n s)) ≡ with_quiet n s
quiet_kept s n e = quiet_read s n ∙ ap (λ (x : State). with_quiet n x) e

pub packed_as : {n : List ℕ} (t : State) → n ≡ image_of t → state_at n ≡ t → n ≡ image_of (state_at n)
packed_as t e f = e ∙ ap image_of (sym f)

pub status_again : {m n : List ℕ} {t : Status} → m ≡ image_of (state_at m) → n ≡ image_of (with_status t (state_at m)) → state_at n ≡ with_status t (state_at m)
status_again {m} {n} {t} e f = ap state_at f ∙ status_kept (state_at m) t (ap state_at (sym e))
