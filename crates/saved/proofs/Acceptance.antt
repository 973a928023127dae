-- AN IMAGE IS ACCEPTED EXACTLY WHEN IT IS THE IMAGE OF A CHIP IN RANGE AND AT REST.
use Prim.Native.Nat.{ℕ, ◌≤◌, ◌<◌}
use mathlib.Core.Path.{◌≡◌, sym, ap, subst, ◌∙◌}
use mathlib.Core.Bool.{Bool, true, ◌&&◌}
use mathlib.Core.List.{List}
use native.Mathlib.Omega.{arith}
use borrow.Author.Tests.{leb-true, ltb-true, eqb-true, le-leb, lt-ltb, eq-eqb}
use lib.ListN.{length, drop, get_or, length-append, length-take, length-drop}
use lib.Seq.{length-take-le}
use lib.Dec.{leb, ltb}
use Rattle.rules.specs.Numbers.{padded}
use Rattle.rules.specs.State.{State}
use Rattle.rules.specs.Step.{step, step_event, ticks_taken, access, done}
use Rattle.rules.specs.StepB.{after_b}
use Rattle.rules.specs.StepD.{after_d}
use Rattle.rules.specs.Rest.{AtRest}
use Rattle.rules.specs.Ranges.{InRange, InBytes, Bytes}
use Rattle.rules.specs.Codes.{access_code, is_done}
use Rattle.rules.specs.declared.records.Event.TheVariants.{Ticks}
use Rattle.rules.proofs.Logic.{left_true, right_true}
use Rattle.rules.proofs.Ranges.{after_b_fits, after_d_lem, bytes_at, bytes_take, bytes_drop, step_in_range, step_bytes}
use Rattle.rules.proofs.Still.{ticks_done, after_d_still, done_rests, step_rests}
use Rattle.laws.proofs.Lists.{padded_length}
use Rattle.image.specs.Image.{image_of, state_at, IsImage}
use Rattle.image.specs.Layout.{brstcntrl_place, counter_high_place, counter_low_place, counter_middle_place, data_place, host_bytes_place, host_count_place, identity_place, image_size, last_place, offset_place, pointer_place, quiet_place, scsi_bytes_place, scsi_count_place, scsidat_place, selid_place, stack_bytes_place, ticks_high_place, ticks_low_place, ticks_middle_place}
use Rattle.image.proofs.ReadBack.{read_back, is_image}
use Rattle.image.proofs.AtPlaces.{at_scsi, at_host}
use Rattle.saved.specs.Accepted.{same_bytes, length_right, counts_fit, unused_clear, ticks_leave, accepted}
use Rattle.saved.specs.Tests.{Fitting}
use Rattle.saved.proofs.Truth.{both_true, same_true, equal_same}

module _ (m : List ℕ) where
  abbrev h : Bool
  h = leb (get_or m host_count_place 0) 128

  abbrev s : Bool
  s = leb (get_or m scsi_count_place 0) 8

  abbrev o : Bool
  o = leb (get_or m offset_place 0) 8

  abbrev q : Bool
  q = leb (get_or m quiet_place 0) 8

  pub counts_fitting : counts_fit m ≡ true → Fitting m
  unfolding counts_fit
  counts_fitting e =
      record {
        host = leb-true _ _ (left_true h s (left_true (h && s) o (left_true (h && s && o) q e)));
        scsi = leb-true _ _ (right_true h s (left_true (h && s) o (left_true (h && s && o) q e)));
        offset = leb-true _ _ (right_true (h && s) o (left_true (h && s && o) q e));
        quiet = leb-true _ _ (right_true (h && s && o) q e);
      }

  pub fitting_counts : Fitting m → counts_fit m ≡ true
  unfolding counts_fit
  fitting_counts f =
      both_true (both_true (both_true (le-leb _ _ f.host) (le-leb _ _ f.scsi)) (le-leb _ _ f.offset)) (le-leb _ _ f.quiet)

  -- what stands in bytes stays in range
  module _ (b : Bytes m) where
    pub in_bytes : InBytes (state_at m)
    unfolding state_at
    in_bytes =
        record {
          lines = bytes_at m data_place b;
          registers = record { scsidat = bytes_at m scsidat_place b; brstcntrl = bytes_at m brstcntrl_place b };
          transfer =
              record {
                last = bytes_at m last_place b;
                host = bytes_take (get_or m host_count_place 0) (drop host_bytes_place m) (bytes_drop host_bytes_place m b);
                scsi = bytes_take (get_or m scsi_count_place 0) (drop scsi_bytes_place m) (bytes_drop scsi_bytes_place m b);
              };
          stack = bytes_take 32 (drop stack_bytes_place m) (bytes_drop stack_bytes_place m b);
          selid = bytes_at m selid_place b;
        }

    pub in_range : length m ≡ image_size → Fitting m → get_or m identity_place 0 < 32 → get_or m pointer_place 0 < 32 → InRange (state_at m)
    unfolding state_at
    in_range e f i p =
        record {
          registers = record { sxfr = omega arith; sofs = omega arith; oid = omega arith; tid = omega arith };
          transfer =
              record {
                host = simp length-take (omega (arith, f.host));
                scsi = simp length-take (omega (arith, f.scsi));
                counter = omega (arith, bytes_at m counter_low_place b, bytes_at m counter_middle_place b, bytes_at m counter_high_place b);
                offset = f.offset;
              };
          stack = record { pointer = p; size = length-take-le 32 (drop stack_bytes_place m) (simp length-drop (omega arith)) };
          quiet = f.quiet;
          identity = i;
          sequencer = omega (arith, bytes_at m ticks_low_place b, bytes_at m ticks_middle_place b, bytes_at m ticks_high_place b);
        }

-- the length of an image
image_length : (s : State) → InRange s → length (image_of s) ≡ image_size
unfolding image_of
image_length s i =
    let a : length (padded 8 s.transfer.scsi) ≡ 8 = padded_length 8 s.transfer.scsi i.transfer.scsi in
    let b : length (padded 128 s.transfer.host) ≡ 128 = padded_length 128 s.transfer.host i.transfer.host in
    simp length-append (omega (arith, a, b, i.stack.size))

-- the numbers of an image
module _ {m : List ℕ} (i : IsImage m) where
  image_identity : get_or m identity_place 0 < 32
  unfolding state_at
  image_identity = i.range.identity

  image_pointer : get_or m pointer_place 0 < 32
  unfolding state_at
  image_pointer = i.range.stack.pointer

  image_offset : get_or m offset_place 0 ≤ 8
  unfolding state_at
  image_offset = i.range.transfer.offset

  image_quiet : get_or m quiet_place 0 ≤ 8
  unfolding state_at
  image_quiet = i.range.quiet

  pub image_fitting : Fitting m
  image_fitting =
      record {
        host = omega (arith, at_host m i, i.range.transfer.host);
        scsi = omega (arith, at_scsi m i, i.range.transfer.scsi);
        offset = image_offset;
        quiet = image_quiet;
      }

-- an event of 0 ticks is done
module _ (s : State) (i : InRange s) where
  is_done_lem : is_done (access_code s (Ticks 0)) ≡ true
  is_done_lem = ap is_done (ticks_done s 0 i.transfer.host)

  zero_ticks_lem : (step_event s (Ticks 0)).state ≡ after_d s (Ticks 0)
  unfolding step_event ticks_taken access done
  zero_ticks_lem = rw is_done_lem

  zero_fits : InRange (after_b s (Ticks 0))
  zero_fits = after_b_fits s (Ticks 0) (omega arith) is_done_lem i

  -- at rest it changes nothing; and what it leaves as it was is at rest, since it leaves every chip so
  pub rest_leaves : AtRest s → (step_event s (Ticks 0)).state ≡ s
  rest_leaves r = zero_ticks_lem ∙ after_d_still s r i.quiet

  pub leaves_rest : image_of s ≡ image_of (step_event s (Ticks 0)).state → AtRest s
  leaves_rest e =
      let t : State = after_d s (Ticks 0) in
      let same : s ≡ t = sym (read_back s i) ∙ ap state_at (e ∙ ap image_of zero_ticks_lem) ∙ read_back t (after_d_lem s (Ticks 0) zero_fits) in
      subst AtRest (sym same) (done_rests s (Ticks 0) zero_fits)

-- BOTH WAYS
pub record Acceptable (m : List ℕ) : Type 0 where
  pub image : IsImage m
  pub rest : AtRest (state_at m)

module _ (m : List ℕ) where
  pub acceptable_length : IsImage m → length m ≡ image_size
  acceptable_length i = ap length i.packed ∙ image_length (state_at m) i.range

  abbrev same : Bool
  same = same_bytes m (image_of (state_at m))

  abbrev place : Bool
  place = ltb (get_or m identity_place 0) 32

  abbrev pointer : Bool
  pointer = ltb (get_or m pointer_place 0) 32

  pub accepted_acceptable : Bytes m → accepted m ≡ true → Acceptable m
  unfolding accepted unused_clear ticks_leave
  accepted_acceptable b e =
      let f = left_true (length_right m && counts_fit m && unused_clear m) (ticks_leave m) e in
      let g = left_true (length_right m && counts_fit m) (unused_clear m) f in
      let u = right_true (length_right m && counts_fit m) (unused_clear m) f in
      let v = left_true (same && place) pointer u in
      let p : m ≡ image_of (state_at m) = same_true m (image_of (state_at m)) (left_true same place v) in
      let r =
      in_range m b (eqb-true _ _ (left_true (length_right m) (counts_fit m) g)) (counts_fitting m (right_true (length_right m) (counts_fit m) g))
      (ltb-true _ _ (right_true same place v)) (ltb-true _ _ (right_true (same && place) pointer u))
      in
      let t = same_true m _ (right_true (length_right m && counts_fit m && unused_clear m) (ticks_leave m) e) in
      record {
        image = record { packed = p; range = r; bytes = in_bytes m b };
        rest = leaves_rest (state_at m) r (sym p ∙ t);
      }

  pub acceptable_accepted : Acceptable m → accepted m ≡ true
  unfolding accepted unused_clear ticks_leave
  acceptable_accepted a =
      let i = a.image in
      let e : image_of (step_event (state_at m) (Ticks 0)).state ≡ image_of (state_at m) = ap image_of (rest_leaves (state_at m) i.range a.rest) in
      both_true
      (both_true
      (both_true (eq-eqb _ _ (acceptable_length i)) (fitting_counts m (image_fitting i)))
      (both_true (both_true (equal_same m _ i.packed) (lt-ltb _ _ (image_identity i))) (lt-ltb _ _ (image_pointer i))))
      (equal_same m _ (i.packed ∙ sym e))

-- ACCEPTED EXACTLY WHEN IT IS THE IMAGE OF A CHIP IN RANGE AND AT REST
pub accepted_is : (m : List ℕ) → Bytes m → (accepted m ≡ true → IsImage m × AtRest (state_at m)) × (IsImage m → AtRest (state_at m) → accepted m ≡ true)
accepted_is m b = (
  λ e. let a = accepted_acceptable m b e in (a.image, a.rest),
  λ i r. acceptable_accepted m (record { image = i; rest = r }),
)

-- WHAT A STEP LEAVES OF AN ACCEPTED IMAGE IS ACCEPTED
pub step_acceptable : (m : List ℕ) → Acceptable m → (bytes : List ℕ) → Acceptable (image_of (step (state_at m) bytes).state)
step_acceptable m a bytes =
    let i = a.image in
    let s : State = (step (state_at m) bytes).state in
    let f : InRange s = step_in_range (state_at m) bytes i.range in
    record {
      image = is_image s f (step_bytes (state_at m) bytes i.range i.bytes).state;
      rest = subst AtRest (sym (read_back s f)) (step_rests (state_at m) bytes i.range a.rest);
    }

pub step_accepted : (m : List ℕ) → Bytes m → accepted m ≡ true → (bytes : List ℕ) → accepted (image_of (step (state_at m) bytes).state) ≡ true
step_accepted m b e bytes = acceptable_accepted _ (step_acceptable m (accepted_acceptable m b e) bytes)
