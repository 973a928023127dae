-- The call on the bytes of a stack and of 353h's bits is the access on that stack and those bits: what a box that holds them apart does
-- (`Box` of `stack`) is done by the call, and every other record is refused.
use Rattle.std.specs.Prelude.{Option, Some, None}
use Prim.Native.Nat.{ℕ}
use mathlib.Core.Path.{◌≡◌, refl, ap, ◌∙◌}
use mathlib.Core.Bool.{Bool, true, false, ◌&&◌, cond}
use mathlib.Core.List.{List, [], ◌∷◌}
use native.Mathlib.Omega.{arith}
use borrow.Author.Tests.{eq-eqb}
use lib.ListN.{length, replicate, length-append}
use lib.Seq.{take_at, get_or_at}
use Rattle.rules.specs.Registers.{dmacntrl1_of, dmacntrl1_byte}
use Rattle.rules.specs.Records.{decode}
use Rattle.rules.specs.Chips.{stack_view}
use Rattle.rules.proofs.Computes.{computes}
use Rattle.rules.specs.declared.chip.Stack.{Stack}
use Rattle.rules.specs.declared.registers.Dmacntrl1.{Dmacntrl1}
use Rattle.stack.specs.Accesses.{stack_accessed}
use Rattle.stack.specs.Apart.{access_event, access_record, AccessFits}
use Rattle.stack.specs.Box.{Accesses, doing_event, doing}
use Rattle.stack.specs.declared.lent.Access.{Access}
use Rattle.stack.specs.declared.lent.Access.TheVariants.{ReadStack, WriteStack, ReadDmacntrl1, WriteDmacntrl1}
use Rattle.stack.specs.declared.lent.Accessed.{Accessed}
use Rattle.stack.proofs.AsBefore.{decode_access}
use Rattle.stackhost.specs.StackCalls.{stack_in, stack_bytes, stack_call, call_refused, call_done, found_in, call_of, stack_called}

-- what is packed is read back
bits_back : (p e : Bool) → dmacntrl1_of (dmacntrl1_byte (record { pwrdwn = p; enstk32 = e }) 0) ≡ record { pwrdwn = p; enstk32 = e }
bits_back true true = refl
bits_back true false = refl
bits_back false true = refl
bits_back false false = refl

stack_back : (k : Stack) → length k.bytes ≡ 32 → stack_in (stack_bytes k) ≡ k
stack_back k e =
    λ i. record { bytes = take_at k.bytes (k.pointer ∷ []) 32 e i; pointer = get_or_at k.bytes k.pointer [] 0 32 e i }

doing_access : (a : Access) → doing (Some (access_event a)) ≡ Accesses a
unfolding doing doing_event
doing_access ReadStack = refl
doing_access (WriteStack byte) = refl
doing_access ReadDmacntrl1 = refl
doing_access (WriteDmacntrl1 byte) = refl

-- what a box of the stack k and the bits d hands in and finds
module _ (d : Dmacntrl1) (k : Stack) (v : ℕ) (size : length k.bytes ≡ 32) where
  thirty_three : length (stack_bytes k) ≡ 33
  thirty_three = length-append k.bytes (k.pointer ∷ []) ∙ omega arith

  -- by what the record asks
  found_called :
      (bytes : List ℕ) (f : Option Access) → found_in (doing (decode bytes)) ≡ f →
      stack_called (stack_bytes k) (dmacntrl1_byte d 0 ∷ []) bytes (v ∷ [])
      ≡ call_of f (stack_bytes k) (dmacntrl1_byte d 0 ∷ []) (v ∷ [])
  unfolding stack_called
  found_called bytes f e j =
      cond ((eq-eqb (length (stack_bytes k)) 33 thirty_three j && true) && true)
      (call_of (e j) (stack_bytes k) (dmacntrl1_byte d 0 ∷ []) (v ∷ [])) (call_refused (stack_bytes k) (dmacntrl1_byte d 0 ∷ []) (v ∷ []))

  -- EVERY OTHER RECORD IS REFUSED, every buffer as it was
  pub called_elsewhere :
      (bytes : List ℕ) → found_in (doing (decode bytes)) ≡ None →
      stack_called (stack_bytes k) (dmacntrl1_byte d 0 ∷ []) bytes (v ∷ []) ≡ call_refused (stack_bytes k) (dmacntrl1_byte d 0 ∷ []) (v ∷ [])
  called_elsewhere bytes e = found_called bytes None e

module _ (a : Access) (d : Dmacntrl1) (k : Stack) (v : ℕ) (size : length k.bytes ≡ 32) where
  abbrev left : Accessed
  left = stack_accessed a d k

  done :
      call_done a (stack_bytes k) (dmacntrl1_byte d 0 ∷ [])
      ≡ stack_call (stack_bytes left.stack) (dmacntrl1_byte left.control 0 ∷ []) (left.value ∷ []) 0
  unfolding call_done
  done =
      λ i.
      let r = stack_accessed a (bits_back d.pwrdwn d.enstk32 i) (stack_back k size i) in
      stack_call (stack_bytes r.stack) (dmacntrl1_byte r.control 0 ∷ []) (r.value ∷ []) 0

  -- A RECORD THAT ASKS FOR AN ACCESS: what the call leaves is what the access leaves
  pub called_accesses :
      (bytes : List ℕ) → doing (decode bytes) ≡ Accesses a →
      stack_called (stack_bytes k) (dmacntrl1_byte d 0 ∷ []) bytes (v ∷ [])
      ≡ stack_call (stack_bytes left.stack) (dmacntrl1_byte left.control 0 ∷ []) (left.value ∷ []) 0
  called_accesses bytes e = found_called d k v size bytes (found_in (Accesses a)) (ap found_in e) ∙ done

module _ (a : Access) (d : Dmacntrl1) (k : Stack) (v : ℕ) (f : AccessFits a) (size : length k.bytes ≡ 32) where
  abbrev then : Accessed
  then = stack_accessed a d k

  pub called_is_accessed :
      stack_called (stack_bytes k) (dmacntrl1_byte d 0 ∷ []) (access_record a) (v ∷ [])
      ≡ stack_call (stack_bytes then.stack) (dmacntrl1_byte then.control 0 ∷ []) (then.value ∷ []) 0
  called_is_accessed = called_accesses a d k v size (access_record a) (ap doing (decode_access a f) ∙ doing_access a)

-- bits that are not in use, of the pointer's byte and of the byte for 353h, are read as 0
pub worked : stack_called (stack_bytes (record { bytes = replicate 32 0; pointer = 0x2F })) (0xBF ∷ []) (access_record ReadDmacntrl1) (9 ∷ []) ≡ stack_call (stack_bytes (record { bytes = replicate 32 0; pointer = 0x2F })) (0x80 ∷ []) (0x8F ∷ []) 0
unfolding stack_called call_done computes stack_view stack_accessed doing doing_event
worked = refl
