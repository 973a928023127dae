-- The code by what the checks look at, on the state that an image stands for.
use mathlib.Core.Path.{◌≡◌, refl, ap, sym, ◌∙◌}
use mathlib.Core.Bool.{Bool, true, false}
use mathlib.Core.List.{List}
use Prim.Native.Nat.{ℕ, ◌+◌, ◌≤◌}
use native.Mathlib.Omega.{arith}
use lib.Dec.{leb, ltb}
use Rattle.std.proofs.lemmas.Bool.Decides.{nat_tests}
use lib.ListN.{length, get_or}
use Rattle.rules.specs.State.{State}
use Rattle.rules.specs.Map.{table, read_at, written_at}
use Rattle.rules.specs.Codes.{access_code, shut, no_room, no_bytes}
use Rattle.rules.specs.declared.codes.Code.TheVariants.{Done, Shut, NoRoom, NoBytes}
use Rattle.rules.specs.declared.registers.Dmacntrl0.{Dmacntrl0}
use Rattle.rules.specs.declared.records.Event.{Event}
use Rattle.rules.specs.declared.records.Event.TheVariants.{Write, Read, WordWrite, WordRead}
use Rattle.image.specs.Image.{image_of, state_at, IsImage}
use Rattle.image.specs.Layout.{host_count_place}
use Rattle.effects.specs.CodeBy.{shut_to, first_of, code_by}
use Rattle.effects.proofs.Accesses as accesses

pub code_is : (s : State) (e : Event) → code_by s.registers.dmacntrl0 (length s.transfer.host) e ≡ access_code s e
unfolding code_by access_code shut no_room no_bytes
code_is s e = refl

count_of : (s : State) → get_or (image_of s) host_count_place 0 ≡ length s.transfer.host
unfolding image_of
count_of s = refl

-- no room, as the code tests it
room_for_one : (held : ℕ) → leb 128 held ≡ ltb 128 (held + 1)
room_for_one held = grind (arith, nat_tests)

room_for_two : (held : ℕ) → leb 127 held ≡ ltb 128 (held + 2)
room_for_two held = grind (arith, nat_tests)

-- an access to the port by the tests that the code makes: shut, full, short
pub record Tests (s : State) (e : Event) (shut full short : Bool) : Type 0 where
  pub code : first_of false false shut full short ≡ access_code s e

module _ {m : List ℕ} (g : IsImage m) where
  pub held_is : get_or m host_count_place 0 ≡ length (state_at m).transfer.host
  held_is = ap (λ (l : List ℕ). get_or l host_count_place 0) g.packed ∙ count_of (state_at m)

  pub held_fits : get_or m host_count_place 0 ≤ 128
  held_fits = rw held_is g.range.transfer.host

  pub code_at_is : (e : Event) → code_by (state_at m).registers.dmacntrl0 (get_or m host_count_place 0) e ≡ access_code (state_at m) e
  code_at_is e = ap (λ (n : ℕ). code_by (state_at m).registers.dmacntrl0 n e) held_is ∙ code_is (state_at m) e

  abbrev d : Dmacntrl0
  d = (state_at m).registers.dmacntrl0

  -- the four accesses to the data port
  pub byte_write_tests : (v : ℕ) → Tests (state_at m) (Write 0x16 v) (shut_to d false false) (leb 128 (get_or m host_count_place 0)) false
  unfolding table written_at
  byte_write_tests v = record { code = rw (room_for_one (get_or m host_count_place 0)) (accesses.written d (get_or m host_count_place 0) held_fits 0x16 v ∙ code_at_is (Write 0x16 v)) }

  pub byte_read_tests : Tests (state_at m) (Read 0x16) (shut_to d false true) false (ltb (get_or m host_count_place 0) 1)
  unfolding table read_at
  byte_read_tests = record { code = accesses.read d (get_or m host_count_place 0) held_fits 0x16 ∙ code_at_is (Read 0x16) }

  pub word_write_tests : (w : ℕ) → Tests (state_at m) (WordWrite w) (shut_to d true false) (leb 127 (get_or m host_count_place 0)) false
  word_write_tests w = record { code = rw (room_for_two (get_or m host_count_place 0)) (accesses.word_written_lem d (get_or m host_count_place 0) held_fits w ∙ code_at_is (WordWrite w)) }

  pub word_read_tests : Tests (state_at m) WordRead (shut_to d true true) false (ltb (get_or m host_count_place 0) 2)
  word_read_tests = record { code = accesses.word_read_lem d (get_or m host_count_place 0) held_fits ∙ code_at_is WordRead }

module _ {s : State} {e : Event} {shut full short closed : Bool} (t : Tests s e shut full short) (c : closed ≡ shut) where
  pub is_shut : closed ≡ true → access_code s e ≡ Shut
  is_shut h = sym (rw (sym c ∙ h) at t.code)

  module _ (h : closed ≡ false) where
    pub is_full : full ≡ true → access_code s e ≡ NoRoom
    is_full f = sym (rw (sym c ∙ h, f) at t.code)

    pub is_short : full ≡ false → short ≡ true → access_code s e ≡ NoBytes
    is_short f n = sym (rw (sym c ∙ h, f, n) at t.code)

    pub is_open : full ≡ false → short ≡ false → access_code s e ≡ Done
    is_open f n = sym (rw (sym c ∙ h, f, n) at t.code)
