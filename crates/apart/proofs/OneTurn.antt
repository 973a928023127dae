-- What the two calls for one record leave is what the box of `stack` does with it.
use Rattle.std.specs.Prelude.{None}
use Prim.Native.Nat.{ℕ}
use mathlib.Core.Path.{◌≡◌, refl, ap, sym, subst, ◌∙◌}
use mathlib.Core.Bool.{cond}
use mathlib.Core.List.{List, [], ◌∷◌, ◌++◌, append_assoc}
use native.Mathlib.Omega.{arith}
use borrow.Author.Tests.{eq-eqb}
use lib.Dec.{eqb}
use lib.ListN.{length, take, drop, get_or, set, length-append}
use lib.Seq.{take_at, get_or_at}
use Rattle.rules.specs.Numbers.{padded}
use Rattle.rules.specs.State.{State}
use Rattle.rules.specs.Registers.{dmacntrl1_byte}
use Rattle.rules.specs.Records.{decode}
use Rattle.rules.specs.Answers.{Stepped, answer_size}
use Rattle.rules.specs.Step.{step, answer, called}
use Rattle.rules.specs.Ranges.{InRange, InBytes}
use Rattle.rules.specs.Rest.{AtRest}
use Rattle.rules.proofs.Still.{zero_ticks, zero_ticks_at_rest}
use Rattle.laws.proofs.Lists.{padded_length}
use Rattle.stack.specs.Accesses.{stack_accessed}
use Rattle.stack.specs.Apart.{with_apart, bytes_with}
use Rattle.stack.specs.Box.{Box, whole, Doing, Accesses, Resets, Steps, doing, boxed, box_answer}
use Rattle.stack.specs.declared.lent.Access.{Access}
use Rattle.stack.specs.declared.lent.Accessed.{Accessed}
use Rattle.stackhost.specs.StackCalls.{StackCall, stack_bytes, stack_call, call_refused, stack_called, found_in}
use Rattle.stackhost.proofs.AsBox.{called_accesses, called_elsewhere}
use Rattle.image.specs.Image.{head_of, image_of}
use Rattle.image.specs.Layout.{dmacntrl1_place, host_bytes_place, pointer_place, stack_bytes_place}
use Rattle.image.proofs.ReadBack.{read_back, is_image, host_at}
use Rattle.saved.proofs.Acceptance.{Acceptable, acceptable_accepted}
use Rattle.host.specs.ImageCalls.{Left, called_over, image_called, IsImageCall}
use Rattle.apart.specs.Turns.{Kept, Turn, handed_on, IsTurn, shown_by, kept_by, put_in}

-- A CHIP IN RANGE AND AT REST, and a call of the step over its image
pub record Sound (s : State) : Type 0 where
  pub range : InRange s
  pub bytes : InBytes s
  pub rest : AtRest s

module _ (s : State) (u : Sound s) where
  pub sound_acceptable : Acceptable (image_of s)
  sound_acceptable =
      record { image = is_image s u.range u.bytes; rest = subst AtRest (sym (read_back s u.range)) u.rest }

  pub record Stepping (bytes m b : List ℕ) : Type 0 where
    pub image : m ≡ image_of (step s bytes).state
    pub buffer : b ≡ answer s bytes

  pub stepping :
      (bytes before m b : List ℕ) (r : ℕ) → length before ≡ answer_size → IsImageCall (image_of s) bytes before m b r → Stepping bytes m b
  unfolding image_called called
  stepping bytes before m b r h c =
      let e = eq-eqb (length before) answer_size h in
      let f : Left (called_over (image_of s) bytes before) m b r = rw (acceptable_accepted (image_of s) sound_acceptable) at c in
      let back = read_back s u.range in
      record {
        image = f.image ∙ rw e (ap (λ (n : State). image_of (step n bytes).state) back);
        buffer = f.buffer ∙ rw e (ap (λ (n : State). answer n bytes) back);
      }

-- WHAT THE BOX KEEPS, as bytes
pub record Holds (k : Kept) (b : Box) : Type 0 where
  pub image : k.image ≡ image_of b.chip
  pub stack : k.stack ≡ stack_bytes b.stack
  pub control : k.control ≡ dmacntrl1_byte b.control 0 ∷ []

-- ONE RECORD: the answer shown, and what is kept then, are the box's
pub record Turned (b : Box) (t : Turn) (w : Doing) : Type 0 where
  pub shown : shown_by t ≡ box_answer b t.bytes w
  pub kept : Holds (kept_by w t) (boxed b t.bytes w)

module _ (k : Kept) (b : Box) (t : Turn) (h : Holds k b) (u : Sound b.chip) (size : length b.stack.bytes ≡ 32) (c : IsTurn k t) where
  -- the call of rabenteig_stack, on what the box has
  stacked :
      stack_call t.stack t.control t.value t.found
      ≡ stack_called (stack_bytes b.stack) (dmacntrl1_byte b.control 0 ∷ []) t.bytes (t.lent ∷ [])
  stacked = c.stacked ∙ (λ j. stack_called (h.stack j) (h.control j) t.bytes (t.lent ∷ []))

  -- the call of rabenteig_step, handed bytes
  stepped : (bytes : List ℕ) → handed_on t ≡ bytes → Stepping b.chip u bytes t.image t.buffer
  stepped bytes e =
      stepping b.chip u bytes t.before t.image t.buffer t.code c.size
      (subst (λ (m : List ℕ). IsImageCall m bytes t.before t.image t.buffer t.code) h.image
      (subst (λ (l : List ℕ). IsImageCall k.image l t.before t.image t.buffer t.code) e c.stepped))

  -- an access
  accessed : (a : Access) → doing (decode t.bytes) ≡ Accesses a → Turned b t (Accesses a)
  unfolding boxed box_answer
  accessed a e =
      let r : Accessed = stack_accessed a b.control b.stack in
      let p = stacked ∙ called_accesses a b.control b.stack t.lent size t.bytes e in
      let found : t.found ≡ 0 = ap (λ (x : StackCall). x.code) p in
      let value : t.value ≡ r.value ∷ [] = ap (λ (x : StackCall). x.value) p in
      let o = stepped zero_ticks (ap (λ (n : ℕ). cond (eqb n 0) zero_ticks t.bytes) found) in
      record {
        shown = λ j. cond (eqb (found j) 0) (bytes_with (get_or (value j) 0 0) (o.buffer j)) (o.buffer j);
        kept =
            record {
              image = o.image ∙ ap (λ (x : Stepped). image_of x.state) (zero_ticks_at_rest b.chip u.rest u.range);
              stack = ap (λ (x : StackCall). x.stack) p;
              control = ap (λ (x : StackCall). x.control) p;
            };
      }

  -- every other record is refused by the one and taken by the other
  module _ (e : found_in (doing (decode t.bytes)) ≡ None) where
    refused :
        stack_call t.stack t.control t.value t.found
        ≡ call_refused (stack_bytes b.stack) (dmacntrl1_byte b.control 0 ∷ []) (t.lent ∷ [])
    refused = stacked ∙ called_elsewhere b.control b.stack t.lent size t.bytes e

    found_none : t.found ≡ 1
    found_none = ap (λ (x : StackCall). x.code) refused

    taken : Stepping b.chip u t.bytes t.image t.buffer
    taken = stepped t.bytes (ap (λ (n : ℕ). cond (eqb n 0) zero_ticks t.bytes) found_none)

    shows : shown_by t ≡ answer b.chip t.bytes
    shows j = cond (eqb (found_none j) 0) (bytes_with (get_or t.value 0 0) (taken.buffer j)) (taken.buffer j)

  pub turned : (w : Doing) → doing (decode t.bytes) ≡ w → Turned b t w
  unfolding boxed box_answer
  turned (Accesses a) e = accessed a e
  turned Resets e =
      record { shown = shows (ap found_in e); kept = record { image = (taken (ap found_in e)).image; stack = refl; control = refl } }
  turned Steps e =
      let p = refused (ap found_in e) in
      record {
        shown = shows (ap found_in e);
        kept =
            record {
              image = (taken (ap found_in e)).image;
              stack = ap (λ (x : StackCall). x.stack) p;
              control = ap (λ (x : StackCall). x.control) p;
            };
      }

-- ALL IN ONE: the image with the box's own stack, pointer and byte for 353h put in is the image of `whole`
module _ (b : Box) (i : InRange b.chip) (w : InRange (whole b)) where
  -- with the byte and the pointer put in
  abbrev pointing : State
  pointing = with_apart b.control (record { bytes = b.chip.stack.bytes; pointer = b.stack.pointer }) b.chip

  pointing_fits : InRange pointing
  pointing_fits =
      record {
        registers = w.registers;
        transfer = i.transfer;
        stack = record { pointer = w.stack.pointer; size = i.stack.size };
        quiet = i.quiet;
        identity = i.identity;
        sequencer = i.sequencer;
      }

  bytes_set :
      set (set (image_of b.chip) dmacntrl1_place (dmacntrl1_byte b.control 0)) pointer_place b.stack.pointer
      ≡ image_of pointing
  unfolding image_of
  bytes_set = refl

  abbrev early : List ℕ
  early = head_of pointing ++ padded 8 b.chip.transfer.scsi

  abbrev late : List ℕ
  late = padded 128 b.chip.transfer.host

  early_length : length early ≡ 43
  early_length =
      let e : length (padded 8 b.chip.transfer.scsi) ≡ 8 = padded_length 8 b.chip.transfer.scsi i.transfer.scsi in
      simp length-append (omega (arith, e))

  early_part : take stack_bytes_place (image_of pointing) ≡ early
  unfolding image_of
  early_part =
      ap (λ (l : List ℕ). take 43 l) (append_assoc early b.chip.stack.bytes late)
      ∙ take_at early (b.chip.stack.bytes ++ late) 43 early_length

  whole_is : early ++ (b.stack.bytes ++ late) ≡ image_of (whole b)
  unfolding image_of
  whole_is = sym (append_assoc early b.stack.bytes late)

  pub put_whole : (k : Kept) → Holds k b → put_in k ≡ image_of (whole b)
  put_whole k h =
      let pointer : get_or k.stack 32 0 ≡ b.stack.pointer =
      ap (λ (l : List ℕ). get_or l 32 0) h.stack ∙ get_or_at b.stack.bytes b.stack.pointer [] 0 32 w.stack.size in
      let middle : take 32 k.stack ≡ b.stack.bytes =
      ap (λ (l : List ℕ). take 32 l) h.stack ∙ take_at b.stack.bytes (b.stack.pointer ∷ []) 32 w.stack.size in
      let m : set (set k.image dmacntrl1_place (get_or k.control 0 0)) pointer_place (get_or k.stack 32 0) ≡ image_of pointing =
      (λ j. set (set (h.image j) dmacntrl1_place (get_or (h.control j) 0 0)) pointer_place (pointer j)) ∙ bytes_set in
      (λ j. take stack_bytes_place (m j) ++ (middle j ++ drop host_bytes_place (m j)))
      ∙ (λ j. early_part j ++ (b.stack.bytes ++ host_at pointing pointing_fits j)) ∙ whole_is
