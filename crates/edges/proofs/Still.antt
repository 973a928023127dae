-- Where the bytes seen are the same and no tick came, B changes the quiet ticks alone.
use Prim.Native.Nat.{ℕ, ◌+◌, ◌<◌, min}
use mathlib.Core.Path.{◌≡◌, refl, ap, sym, ◌∙◌}
use mathlib.Core.Bool.{Bool, true, false, not, ◌&&◌, cond, and-false}
use mathlib.Core.List.{List}
use native.Mathlib.Omega.{arith}
use lib.Dec.{eqb, leb}
use lib.ListN.{get_or, set}
use borrow.Author.Tests.{eqb-true, leb-false, lt-leb}
use Rattle.std.proofs.Math.Bool.{and-not_self}
use Rattle.rules.specs.State.{State}
use Rattle.rules.specs.Seen.{rst_seen, sel_seen, bsy_seen, req_seen, connected, matched, mismatched}
use Rattle.rules.specs.StepB.{quiet_after}
use Rattle.edges.specs.Components.{registers_b, busy_b, transfer_b, status_b}
use Rattle.edges.specs.declared.edges.Edges.{Edges}
use Rattle.rules.proofs.Logic.{left_true, right_true}
use Rattle.rules.specs.Changed.{with_quiet}
use Rattle.image.specs.Image.{image_of, state_at, IsImage}
use Rattle.image.specs.Layout.{control_place, quiet_place, scsiseq_place, scsisig_place, sequencer_place, upper_place}
use Rattle.edges.specs.declared.last.Seen.{Seen}
use Rattle.edges.specs.From.{rst_rises_from, req_rises_from, synchronous_req_from, quiet_from, edges_from, applied_from}
use Rattle.edges.specs.ParityKept.{kept_from}
use Rattle.edges.proofs.ParityKept.{kept_none}
use Rattle.edges.specs.Since.{seen_of, last_of, five_in_order, beyond_since, rst_of, req_of, mismatched_of}
use Rattle.edges.proofs.InOrder.{unrisen_edges, since, beyond_since_lem}
use Rattle.edges.proofs.Placed.{quiet_placed}

-- what is read off the five bytes of an array is what is seen there
pub rst_of_lem : (m : List ℕ) → rst_of (seen_of m) ≡ rst_seen (state_at m)
unfolding rst_of rst_seen state_at
rst_of_lem m = refl

pub req_of_lem : (m : List ℕ) → req_of (seen_of m) ≡ req_seen (state_at m)
unfolding req_of state_at
req_of_lem m = refl

pub mismatched_of_lem : (m : List ℕ) → mismatched_of (seen_of m) ≡ mismatched (state_at m)
unfolding mismatched_of mismatched connected matched bsy_seen sel_seen rst_seen state_at
mismatched_of_lem m = refl

-- the five bytes, compared
pub same_bytes_lem : (m : List ℕ) (x : Seen) → (eqb (get_or m control_place 0) x.control && eqb (get_or m scsisig_place 0) x.sig && eqb (get_or m upper_place 0) x.upper && eqb (get_or m scsiseq_place 0) x.seq && eqb (get_or m sequencer_place 0) x.sequencer) ≡ true → seen_of m ≡ x
same_bytes_lem m x h =
    let a = eqb (get_or m control_place 0) x.control in
    let b = eqb (get_or m scsisig_place 0) x.sig in
    let c = eqb (get_or m upper_place 0) x.upper in
    let d = eqb (get_or m scsiseq_place 0) x.seq in
    let e = eqb (get_or m sequencer_place 0) x.sequencer in
    let h4 : (a && b && c && d) ≡ true = left_true (a && b && c && d) e h in
    let h3 : (a && b && c) ≡ true = left_true (a && b && c) d h4 in
    let h2 : (a && b) ≡ true = left_true (a && b) c h3 in
    λ i.
    record {
      seq = eqb-true (get_or m scsiseq_place 0) x.seq (right_true (a && b && c) d h4) i;
      sig = eqb-true (get_or m scsisig_place 0) x.sig (right_true a b h2) i;
      upper = eqb-true (get_or m upper_place 0) x.upper (right_true (a && b) c h3) i;
      control = eqb-true (get_or m control_place 0) x.control (left_true a b h2) i;
      sequencer = eqb-true (get_or m sequencer_place 0) x.sequencer (right_true (a && b && c && d) e h) i;
    }

-- quiet ticks that stood below 8 stay there
stays_by : (q : ℕ) (x : Bool) → leb 8 q ≡ x → (leb 8 (min 8 (q + 0)) && not (leb 8 q)) ≡ false
stays_by q true e = rw e (and-false (leb 8 (min 8 (q + 0))))
stays_by q false e =
    let h : min 8 (q + 0) < 8 = omega (arith, leb-false 8 q e) in
    ap (λ (y : Bool). y && not (leb 8 q)) (lt-leb 8 (min 8 (q + 0)) h)

stays : (b : Bool) (q : ℕ) → (leb 8 (cond b 0 (min 8 (q + 0))) && not (leb 8 q)) ≡ false
stays true q = refl
stays false q = stays_by q (leb 8 q) refl

-- nothing rises, nothing falls
abbrev still_at : ℕ → Edges
still_at q = unrisen_edges false false false q

module _ (s : State) where
  abbrev rst : Bool
  rst = rst_seen s

  abbrev req : Bool
  req = req_seen s

  still : edges_from rst req s 0 ≡ still_at (quiet_from rst s 0)
  unfolding edges_from rst_rises_from req_rises_from synchronous_req_from quiet_from quiet_after
  still = rw (and-not_self rst, and-not_self req, stays (busy_b false s) s.quiet)

  -- BSY or SEL seen zeroes the quiet ticks; those that nothing adds to stay
  quiet_zeroed : busy_b false s ≡ true → 0 ≡ quiet_from rst s 0
  unfolding quiet_from quiet_after rst_rises_from
  quiet_zeroed b = rw (and-not_self rst, b)

  quiet_left : busy_b false s ≡ false → s.quiet ≡ min 8 (s.quiet + 0) → s.quiet ≡ quiet_from rst s 0
  unfolding quiet_from quiet_after rst_rises_from
  quiet_left b e = rw (and-not_self rst, b) e

  unmoved : (q : ℕ) → applied_from (still_at q) (mismatched s) s ≡ with_quiet q s
  unfolding applied_from registers_b transfer_b status_b
  unmoved q = rw (and-not_self (mismatched s))

  still_applied : applied_from (edges_from rst req s 0) (mismatched s) s ≡ with_quiet (quiet_from rst s 0) s
  still_applied = ap (λ (g : Edges). applied_from g (mismatched s) s) still ∙ unmoved (quiet_from rst s 0)

  req_still : req_rises_from req s ≡ false
  unfolding req_rises_from
  req_still = ap (λ (b : Bool). b && not rst) (and-not_self req)

  still_beyond : false ≡ (edges_from rst req s 0).beyond
  still_beyond = ap (λ (g : Edges). g.beyond) (sym still)

-- since the bytes of the array itself
module _ (m : List ℕ) where
  abbrev s : State
  s = state_at m

  abbrev x : Seen
  x = seen_of m

  pub still_since : false ≡ beyond_since x s
  still_since = still_beyond s ∙ (λ i. (edges_from (sym (rst_of_lem m) i) (sym (req_of_lem m) i) s 0).beyond) ∙ beyond_since_lem x 0 s

  -- REQ is as it was, so that no parity is kept
  same_kept : s ≡ kept_from (req_of x) s
  same_kept = sym (kept_none (req_of x) s (ap (λ (q : Bool). req_rises_from q s) (req_of_lem m) ∙ req_still s))

  quiet_since : {q : ℕ} → q ≡ quiet_from (rst_seen s) s 0 → image_of (with_quiet q s) ≡ image_of (five_in_order (last_of x) 0 s)
  quiet_since h =
      ap (λ (n : ℕ). image_of (with_quiet n s)) h ∙ ap image_of (sym (still_applied s))
      ∙ (λ i. image_of (applied_from (edges_from (sym (rst_of_lem m) i) (sym (req_of_lem m) i) s 0) (sym (mismatched_of_lem m) i) s))
      ∙ ap (λ (n : State). image_of (applied_from (edges_from (rst_of x) (req_of x) s 0) (mismatched_of x) n)) same_kept
      ∙ ap image_of (since x 0 s)

  module _ (g : IsImage m) where
    pub seen_quieted : busy_b false s ≡ true → set m quiet_place 0 ≡ image_of (five_in_order (last_of x) 0 s)
    seen_quieted b = quiet_placed m 0 s g.packed ∙ quiet_since (quiet_zeroed s b)

    pub seen_unchanged : busy_b false s ≡ false → m ≡ image_of (five_in_order (last_of x) 0 s)
    seen_unchanged b = g.packed ∙ quiet_since (quiet_left s b (omega (arith, g.range.quiet)))
