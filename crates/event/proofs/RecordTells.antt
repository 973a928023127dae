-- What the record of a line event, or of ticks, tells.
use Rattle.std.specs.Prelude.{Option, Some, None}
use Prim.Native.Nat.{ℕ, zero, suc, ◌/◌, ◌%◌}
use mathlib.Core.Path.{◌≡◌, refl, subst}
use mathlib.Core.List.{List}
use lib.Dec.{eqb}
use lib.ListN.{length, get_or}
use borrow.Author.Tests.{eqb-true}
use Rattle.rules.specs.Records.{lines_of, payload_of, event_of, well_formed, fields_of, decode}
use Rattle.rules.specs.Ranges.{DecodedFits}
use Rattle.rules.specs.declared.records.Event.{Event}
use Rattle.rules.specs.declared.records.Event.TheVariants.{PowerReset, Write, Read, WordWrite, WordRead, Drive, Ticks}
use Rattle.rules.specs.declared.records.Lines.{Lines}
use Rattle.rules.proofs.Logic.{cond_case}
use Rattle.rules.proofs.Ranges.{decode_fits}

-- the lines are those of the payload
abbrev Taken : ℕ → Option Event → Type 0
Taken p (Some PowerReset) = Unit {0}
Taken p (Some (Write o v)) = Unit {0}
Taken p (Some (Read o)) = Unit {0}
Taken p (Some (WordWrite w)) = Unit {0}
Taken p (Some WordRead) = Unit {0}
Taken p (Some (Drive l)) = lines_of p ≡ l
Taken p (Some (Ticks n)) = Unit {0}
Taken p None = Unit {0}

event_taken : (kind offset p : ℕ) → Taken p (event_of kind offset p)
event_taken zero offset p = tt
event_taken (suc zero) offset p = tt
event_taken (suc (suc zero)) offset p = tt
event_taken (suc (suc (suc zero))) offset p = tt
event_taken (suc (suc (suc (suc zero)))) offset p = tt
event_taken (suc (suc (suc (suc (suc zero))))) offset p = refl
event_taken (suc (suc (suc (suc (suc (suc zero)))))) offset p = tt
event_taken (suc (suc (suc (suc (suc (suc (suc k))))))) offset p = tt

-- a record that is well formed has four bytes
abbrev Whole : ℕ → Option Event → Type 0
Whole n (Some e) = n ≡ 4
Whole n None = Unit {0}

whole : (n : ℕ) (d : Option Event) → n ≡ 4 → Whole n d
whole n (Some e) h = h
whole n None h = tt

module _ (l : List ℕ) where
  abbrev pub payload : ℕ
  payload = payload_of (get_or l 1 0) (get_or l 2 0) (get_or l 3 0)

  abbrev kind : ℕ
  kind = get_or l 0 0 / 32

  abbrev offset : ℕ
  offset = get_or l 0 0 % 32

  fields_taken : Taken payload (fields_of kind offset payload)
  unfolding fields_of
  fields_taken = cond_case (Taken payload) (well_formed kind offset payload) (event_of kind offset payload) None (λ k. event_taken kind offset payload) (λ k. tt)

  decode_taken : Taken payload (decode l)
  unfolding decode
  decode_taken = cond_case (Taken payload) (eqb (length l) 4) (fields_of kind offset payload) None (λ h. fields_taken) (λ h. tt)

  decode_whole : Whole (length l) (decode l)
  unfolding decode
  decode_whole =
      cond_case (Whole (length l)) (eqb (length l) 4) (fields_of kind offset payload) None
      (λ h. whole (length l) (fields_of kind offset payload) (eqb-true (length l) 4 h)) (λ h. tt)

  module _ {e : Event} (d : decode l ≡ Some e) where
    pub four : length l ≡ 4
    four = subst (Whole (length l)) d decode_whole

    pub event_fits : DecodedFits (Some e)
    event_fits = subst DecodedFits d (decode_fits l)

  pub lines_taken : {x : Lines} → decode l ≡ Some (Drive x) → lines_of payload ≡ x
  lines_taken d = subst (Taken payload) d decode_taken
