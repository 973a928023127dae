-- The code of each kind of event, from the tests that the code makes: an access away from the port asks for neither room nor bytes.
use Prim.Native.Nat.{ℕ, ◌+◌, ◌≤◌}
use mathlib.Core.Path.{◌≡◌, refl, sym}
use mathlib.Core.Bool.{Bool, true, false, not, ◌&&◌, ◌||◌, cond, or-false}
use mathlib.Core.List.{[], ◌∷◌}
use native.Mathlib.Omega.{arith}
use lib.Dec.{eqb, ltb}
use lib.ListN.{length}
use borrow.Author.Tests.{le-ltb}
use Rattle.rules.specs.Map.{read_at, written_at}
use Rattle.rules.specs.Events.{writes, value_of, offered, asked, wide, port_write, port_read}
use Rattle.rules.specs.Codes.{absent, test_value, is_refusal, mapped_code}
use Rattle.rules.specs.declared.registers.Dmacntrl0.{Dmacntrl0}
use Rattle.rules.specs.declared.codes.Code.TheVariants.{Done}
use Rattle.rules.specs.declared.records.Event.TheVariants.{Write, Read, WordWrite, WordRead, Drive, Ticks}
use Rattle.rules.specs.declared.records.Lines.{Lines}
use Rattle.effects.specs.CodeBy.{shut_to, first_of, code_by}

-- a byte wants room for one, where the access is to the port
wants_room : (port : Bool) (held value : ℕ) → held ≤ 128 → (port && ltb 128 (held + 1)) ≡ ltb 128 (held + length (cond port (value ∷ []) []))
wants_room true held value h = refl
wants_room false held value h = sym (le-ltb 128 (held + 0) (omega arith))

wants_byte : (port : Bool) (held : ℕ) → (port && ltb held 1) ≡ ltb held (cond port 1 0)
wants_byte true held = refl
wants_byte false held = sym (le-ltb held 0 (omega arith))

-- the direction counts where the access is to the port
shut_at : (port : Bool) (d : Dmacntrl0) → (port && shut_to d false true) ≡ (port && shut_to d false port)
shut_at true d = refl
shut_at false d = refl

module _ (d : Dmacntrl0) (held : ℕ) (h : held ≤ 128) where
  no_room_wanted : ltb 128 (held + 0) ≡ false
  no_room_wanted = le-ltb 128 (held + 0) (omega arith)

  no_byte_wanted : ltb held 0 ≡ false
  no_byte_wanted = le-ltb held 0 (omega arith)

  pub written : (offset value : ℕ) → first_of (is_refusal (mapped_code (written_at offset))) ((eqb offset 0x0E || eqb offset 0x1E) && not (eqb value 0)) (eqb offset 0x16 && shut_to d false false) (eqb offset 0x16 && ltb 128 (held + 1)) false ≡ code_by d held (Write offset value)
  unfolding code_by absent test_value writes value_of offered asked wide port_write port_read
  written offset value = rw (wants_room (eqb offset 0x16) held value h, no_byte_wanted, or-false (eqb offset 0x16))

  pub read : (offset : ℕ) → first_of (is_refusal (mapped_code (read_at offset))) false (eqb offset 0x16 && shut_to d false true) false (eqb offset 0x16 && ltb held 1) ≡ code_by d held (Read offset)
  unfolding code_by absent test_value writes value_of offered asked wide port_write port_read
  read offset = rw (wants_byte (eqb offset 0x16) held, no_room_wanted, shut_at (eqb offset 0x16) d)

  pub word_written_lem : (word : ℕ) → first_of false false (shut_to d true false) (ltb 128 (held + 2)) false ≡ code_by d held (WordWrite word)
  unfolding code_by absent test_value writes value_of offered asked wide port_write port_read
  word_written_lem word = rw no_byte_wanted

  pub word_read_lem : first_of false false (shut_to d true true) false (ltb held 2) ≡ code_by d held WordRead
  unfolding code_by absent test_value writes value_of offered asked wide port_write port_read
  word_read_lem = rw no_room_wanted

  -- an event that is no access is done
  pub driven : (lines : Lines) → Done ≡ code_by d held (Drive lines)
  unfolding code_by absent test_value writes value_of offered asked wide port_write port_read
  driven lines = rw (no_room_wanted, no_byte_wanted)

  pub ticked : (n : ℕ) → Done ≡ code_by d held (Ticks n)
  unfolding code_by absent test_value writes value_of offered asked wide port_write port_read
  ticked n = rw (no_room_wanted, no_byte_wanted)
