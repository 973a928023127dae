-- The array after B, from its parts one after the other.
use Prim.Native.Nat.{ℕ}
use mathlib.Core.Path.{◌≡◌, refl, ap, ◌∙◌}
use mathlib.Core.Bool.{Bool, true, false, not, ◌&&◌, ◌||◌, cond}
use mathlib.Core.List.{List, [], ◌∷◌, ◌++◌}
use lib.ListN.{set}
use Rattle.rules.specs.State.{State}
use Rattle.rules.specs.Seen.{rst_seen, sel_seen, bsy_seen, connected, matched, mismatched, data_seen}
use Rattle.edges.specs.Components.{registers_b, transfer_b, status_b}
use Rattle.rules.specs.declared.chip.Status.{Status}
use Rattle.edges.specs.declared.edges.Edges.{Edges}
use Rattle.rules.specs.Changed.{with_registers, with_status, with_quiet, with_sequencer}
use Rattle.rules.specs.Sequencer.{selection_freed}
use Rattle.image.specs.Image.{image_of, state_at}
use Rattle.image.specs.Layout.{quiet_place}
use Rattle.image.proofs.ReadBack.{lines_back}
use Rattle.edges.specs.From.{applied_from}
use Rattle.edges.specs.Stored.{registers_stored, status_stored, freed_stored}
use Rattle.edges.proofs.Placed.{seq_at, sig_at, phase_at, registers_placed, status_placed, quiet_placed, freed_placed}

-- a mismatch is seen by 340h, 343h, the lines and the phase of the sequencer alone
mismatched_by : (s t : State) → s.registers.scsisig ≡ t.registers.scsisig → s.registers.scsiseq ≡ t.registers.scsiseq → s.lines ≡ t.lines → s.sequencer.phase ≡ t.sequencer.phase → mismatched s ≡ mismatched t
unfolding mismatched matched connected bsy_seen sel_seen rst_seen
mismatched_by s t a b d e = rw (a, b, d, e)

pub mismatched_at : (m : List ℕ) (s : State) → m ≡ image_of s → mismatched (state_at m) ≡ mismatched s
unfolding state_at
mismatched_at m s e =
    ap (λ (l : List ℕ). mismatched (state_at l)) e ∙ mismatched_by (state_at (image_of s)) s (sig_at s) (seq_at s) (lines_back s) (phase_at s)

-- the byte counts where it is stored
stored_byte_lem : (stored : Bool) (x : ℕ) (l : List ℕ) → cond stored (l ++ (cond stored x 0 ∷ [])) l ≡ cond stored (l ++ (x ∷ [])) l
stored_byte_lem true x l = refl
stored_byte_lem false x l = refl

transfer_by : (g : Edges) (x : ℕ) (s : State) → transfer_b g (cond g.stored x 0) s ≡ transfer_b g x s
unfolding transfer_b
transfer_by g x s = rw (stored_byte_lem g.stored x s.transfer.scsi)

-- the state before the phase is judged
abbrev changed_b : Edges → State → State
changed_b g s = with_registers (registers_b g.rstrises g.paritybad g.free s.registers) (transfer_b g (data_seen s) s)

-- "bus free also clears SELDO, and SELDI where noted"
abbrev freed_b : Edges → State → State
freed_b g s = with_sequencer (cond g.free (selection_freed s.sequencer) s.sequencer) s

module _ (g : Edges) (was : Bool) (s : State) where
  applied_made : {changed : Bool} → changed ≡ (mismatched (changed_b g s) && not was) → freed_b g (with_quiet g.quiet (with_status (status_b g changed s.status) (changed_b g s))) ≡ applied_from g was s
  unfolding applied_from transfer_b
  applied_made a = ap (λ (b : Bool). freed_b g (with_quiet g.quiet (with_status (status_b g b s.status) (changed_b g s)))) a

  -- neither the data path nor the registers are changed where the other is, nor the status by them
  registers_unmoved : with_registers (registers_b g.rstrises g.paritybad g.free (transfer_b g (data_seen s) s).registers) (transfer_b g (data_seen s) s) ≡ changed_b g s
  unfolding transfer_b
  registers_unmoved = refl

  status_unmoved : (changed_b g s).status ≡ s.status
  unfolding transfer_b
  status_unmoved = refl

  applied_placed : {a b d : List ℕ} {seen : Bool} → a ≡ image_of (transfer_b g (data_seen s) s) → b ≡ cond (g.rstrises || g.paritybad || g.free) (registers_stored g.rstrises g.paritybad g.free a) a → seen ≡ mismatched (state_at b) → d ≡ status_stored (status_b g (seen && not was)) b → {n : List ℕ} → n ≡ freed_stored g.free (set d quiet_place g.quiet) → n ≡ image_of (applied_from g was s)
  applied_placed {a} {b} {d} {seen} p q f r {n} h =
      let u : State = changed_b g s in
      let v : State = with_status (status_b g (seen && not was) s.status) u in
      let i : b ≡ image_of u = registers_placed g.rstrises g.paritybad g.free (transfer_b g (data_seen s) s) p q ∙ ap image_of registers_unmoved in
      let j : d ≡ image_of v = status_placed (status_b g (seen && not was)) u i r ∙ ap (λ (k : Status). image_of (with_status (status_b g (seen && not was) k) u)) status_unmoved in
      freed_placed g.free (with_quiet g.quiet v) (quiet_placed d g.quiet v j) h
      ∙ ap image_of (applied_made (ap (λ (x : Bool). x && not was) (f ∙ mismatched_at b u i)))

pub applied_in : (g : Edges) (was : Bool) (m : List ℕ) {a b d : List ℕ} {byte : ℕ} {seen : Bool} → byte ≡ cond g.stored (data_seen (state_at m)) 0 → a ≡ image_of (transfer_b g byte (state_at m)) → b ≡ cond (g.rstrises || g.paritybad || g.free) (registers_stored g.rstrises g.paritybad g.free a) a → seen ≡ mismatched (state_at b) → d ≡ status_stored (status_b g (seen && not was)) b → {n : List ℕ} → n ≡ freed_stored g.free (set d quiet_place g.quiet) → n ≡ image_of (applied_from g was (state_at m))
applied_in g was m e p q f r h =
    let s : State = state_at m in
    applied_placed g was s (p ∙ ap (λ (y : ℕ). image_of (transfer_b g y s)) e ∙ ap image_of (transfer_by g (data_seen s) s)) q f r h
