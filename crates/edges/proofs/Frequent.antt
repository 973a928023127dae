-- B is the frequent parts one after the other, while RST does not rise, no parity error comes and the bus does not become free.
use Prim.Native.Nat.{ℕ}
use mathlib.Core.Path.{◌≡◌, refl, ap, sym, ◌∙◌}
use mathlib.Core.Bool.{Bool, true, false, not, ◌&&◌, ◌||◌, cond, and-true, and-false, beq}
use mathlib.Core.List.{List, [], ◌∷◌, ◌++◌}
use lib.Dec.{eqb, leb, ltb}
use lib.ListN.{get_or}
use Rattle.rules.specs.State.{State}
use Rattle.rules.specs.Seen.{rst_seen, sel_seen, bsy_seen, io_seen, req_seen, connected, matched, mismatched, path, synchronous, data_seen}
use Rattle.rules.specs.StepB.{parity_bad, beyond_limit, late_byte}
use Rattle.edges.specs.declared.edges.Edges.{Edges}
use Rattle.rules.specs.Changed.{with_status, with_quiet}
use Rattle.image.specs.Image.{image_of, state_at}
use Rattle.image.specs.Layout.{offset_place, scsi_count_place}
use Rattle.edges.specs.From.{rst_rises_from, req_rises_from, synchronous_req_from, quiet_from, edges_from, applied_from}
use Rattle.edges.specs.Components.{registers_b, transfer_b, status_b, stored_b, offset_b}
use Rattle.edges.specs.Tests.{past_limit}
use Rattle.edges.specs.Frequent.{raised_b, phase_b, inbound_b, call_b, risen_b, released_b, init_b, req_b}
use Rattle.rules.proofs.Driving.{inbound_data}
use Rattle.rules.proofs.Logic.{left_true, right_true}
use Rattle.edges.proofs.Placed.{offset_of_lem, held_of}

-- the byte that is stored where the chip is connected and IO is seen
inbound_byte : (s : State) (b : Bool) (x : List ℕ) → (b ≡ true → connected s ≡ true) → cond (b && io_seen s) (x ++ (data_seen s ∷ [])) x ≡ cond (b && io_seen s) (x ++ (s.lines.byte ∷ [])) x
inbound_byte s false x h = refl
inbound_byte s true x h = by_io (io_seen s) refl
  where
    by_io : (io : Bool) → io_seen s ≡ io → cond io (x ++ (data_seen s ∷ [])) x ≡ cond io (x ++ (s.lines.byte ∷ [])) x
    by_io true e = ap (λ (d : ℕ). x ++ (d ∷ [])) (inbound_data s (h refl) e)
    by_io false e = refl

-- a synchronous REQ comes on a connected bus
joined : (s : State) → matched s ≡ true → connected s ≡ true
unfolding matched
joined s m =
    left_true (connected s) _ (left_true (connected s && beq s.lines.cd s.registers.scsisig.cdexp) _ (left_true _ (beq s.lines.msg s.registers.scsisig.msgexp) m))

called_joined : (req : Bool) (s : State) → (synchronous_req_from req s && not (beyond_limit s)) ≡ true → connected s ≡ true
unfolding synchronous_req_from
called_joined req s h =
    joined s
    (right_true (req_rises_from req s) (matched s) (left_true (req_rises_from req s && matched s) (path s.registers) (left_true (req_rises_from req s && matched s && path s.registers) (synchronous s) (left_true (synchronous_req_from req s) _ h))))

released_alone : (b : Bool) → (b || false || false) ≡ b
released_alone true = refl
released_alone false = refl

-- the state after B, where the registers stay
abbrev plain_b : Edges → Bool → ℕ → State → State
plain_b g was byte s =
    with_quiet g.quiet
    (with_status (raised_b (mismatched s && not was) g.reqrises g.late s.status) (offset_b false g.within g.reqfalls (stored_b g.stored byte s)))

applied_plain : (g : Edges) (was : Bool) (s : State) → g.rstrises ≡ false → g.paritybad ≡ false → g.free ≡ false → applied_from g was s ≡ plain_b g was (data_seen s) s
unfolding applied_from registers_b transfer_b status_b mismatched matched connected bsy_seen sel_seen rst_seen
applied_plain g was s a b d = rw (a, b, d, released_alone)

plain_parts : (rst req was : Bool) (s : State) (ticks : ℕ) → plain_b (edges_from rst req s ticks) was (data_seen s) s ≡ req_b req (phase_b was (with_quiet (quiet_from rst s ticks) s))
unfolding edges_from req_b req_rises_from synchronous_req_from beyond_limit late_byte mismatched matched connected synchronous bsy_seen sel_seen rst_seen
plain_parts rst req was s ticks =
    rw (inbound_byte s (synchronous_req_from req s && not (beyond_limit s)) s.transfer.scsi (called_joined req s))

pub frequent : (rst req was : Bool) (s : State) (ticks : ℕ) → rst_rises_from rst s ≡ false → (req_rises_from req s && parity_bad s) ≡ false → (leb 8 (quiet_from rst s ticks) && not (leb 8 s.quiet)) ≡ false → applied_from (edges_from rst req s ticks) was s ≡ req_b req (phase_b was (with_quiet (quiet_from rst s ticks) s))
unfolding edges_from
frequent rst req was s ticks a b d =
    applied_plain (edges_from rst req s ticks) was s a b d ∙ plain_parts rst req was s ticks

-- the phase, where it is as it was, or changed
pub phase_kept : (was : Bool) (s : State) → was ≡ true → phase_b was s ≡ s
phase_kept was s e = rw (e, and-false)

pub phase_as : (was : Bool) (s : State) {seen : Bool} → was ≡ false → seen ≡ mismatched s → with_status (raised_b seen false false s.status) s ≡ phase_b was s
phase_as was s e f = rw (e, f, and-true)

-- an inbound byte, where IO is seen
pub late_at : (m : List ℕ) (s : State) → m ≡ image_of s → io_seen s ≡ true → (eqb (get_or m offset_place 0) 0 && ltb 0 (get_or m scsi_count_place 0)) ≡ late_byte s
unfolding late_byte
late_at m s e h = rw (h, offset_of_lem m s e, held_of m s e)

pub inbound_none : (s : State) → io_seen s ≡ false → inbound_b true s ≡ s
unfolding late_byte
inbound_none s h = rw h

pub inbound_as : (s : State) {late : Bool} {byte : ℕ} → io_seen s ≡ true → late ≡ late_byte s → byte ≡ s.lines.byte → with_status (raised_b false false late s.status) (stored_b true byte s) ≡ inbound_b true s
inbound_as s h f g =
    λ i. with_status (raised_b false false (f i) s.status) (stored_b (sym h i) (g i) s)

-- a synchronous REQ within the limit, or beyond it
pub not_within : (call : Bool) (s : State) → (call && not (beyond_limit s)) ≡ false → risen_b call s ≡ s
not_within call s e = rw e

pub within_limit : (call : Bool) (s : State) → (call && not (beyond_limit s)) ≡ true → offset_b false true false (inbound_b true s) ≡ risen_b call s
within_limit call s e = rw e

pub beyond_at : (m : List ℕ) → m ≡ image_of (state_at m) → {b : Bool} → b ≡ past_limit (get_or m scsi_count_place 0) (state_at m) → b ≡ beyond_limit (state_at m)
unfolding beyond_limit
beyond_at m e f = f ∙ ap (λ (n : ℕ). past_limit n (state_at m)) (held_of m (state_at m) e)

-- REQ, by what it was and is
module _ (was : Bool) (s : State) where
  abbrev falls_from : Bool
  falls_from = was && not (req_seen s)

  pub req_kept : req_rises_from was s ≡ false → falls_from ≡ false → req_b was s ≡ s
  unfolding req_b synchronous_req_from
  req_kept a b = rw (a, b)

  pub req_fallen : req_rises_from was s ≡ false → falls_from ≡ true → released_b true s ≡ req_b was s
  unfolding req_b synchronous_req_from
  req_fallen a b = rw (a, b)

  pub req_risen_lem : req_rises_from was s ≡ true → falls_from ≡ false → risen_b (call_b (init_b true s)) (init_b true s) ≡ req_b was s
  unfolding req_b synchronous_req_from matched connected synchronous bsy_seen sel_seen rst_seen
  req_risen_lem a b = rw (a, b)

  pub none_beyond : req_rises_from was s ≡ false → false ≡ (synchronous_req_from was s && beyond_limit s)
  unfolding synchronous_req_from
  none_beyond a = rw a

  pub risen_beyond : req_rises_from was s ≡ true → (call_b (init_b true s) && beyond_limit (init_b true s)) ≡ (synchronous_req_from was s && beyond_limit s)
  unfolding synchronous_req_from beyond_limit matched connected synchronous bsy_seen sel_seen rst_seen
  risen_beyond a = rw a
