-- The cut, and the reading of the counter after it.
use Rattle.std.specs.Prelude.{ℕ, ◌+◌, ◌*◌, Bool, not, ◌&&◌, cond, List, [], ◌∷◌, get_or}
use Rattle.rules.specs.Numbers.{bit}
use Rattle.rules.specs.State.{State}
use Rattle.rules.specs.Records.{decode}
use Rattle.rules.specs.Events.{writes, reads, value_of}
use Rattle.rules.specs.Codes.{is_done}
use Rattle.rules.specs.Step.{step}
use Rattle.rules.specs.declared.map.Register.{Register}
use Rattle.rules.specs.declared.map.Register.TheVariants.{SXFRCTL0, STCNT0, STCNT1, STCNT2}
use Rattle.rules.specs.declared.records.Event.{Event}
use Rattle.runs.specs.Comes.{says, along}
use Rattle.runs.specs.Run.{keeps_run, run_allows}

-- "The cut writes 341h with bits 7, 4, 3, 1 zero."
unfoldable pub cut_value : ℕ → Bool
cut_value value = not (bit value 7) && keeps_run value

unfoldable pub is_cut : Event → Bool
is_cut e = writes e SXFRCTL0 && cut_value (value_of e)

-- "until this is read only events a run allows come, none setting SCSIEN"
unfoldable pub sets_scsien : Event → Bool
sets_scsien e = writes e SXFRCTL0 && bit (value_of e) 7

unfoldable pub calm : Event → Bool
calm e = run_allows e && not (sets_scsien e)

-- the value that a read of the register got, where it got code 0
unfoldable pub read_answer : Register → State → List ℕ → List ℕ
read_answer r s bytes =
    cond (is_done (step s bytes).code && says (λ e. reads e r) (decode bytes)) ((step s bytes).value ∷ []) []

abbrev pub read_answers : Register → State → List (List ℕ) → List ℕ
read_answers r s records = along (read_answer r) s records

-- "The driver then reads the counter": the number that it makes of its three reads. "348h lowest"
abbrev pub counter_read : State → List (List ℕ) → ℕ
counter_read s records =
    get_or (read_answers STCNT0 s records) 0 0 + 256 * get_or (read_answers STCNT1 s records) 0 0
    + 65536 * get_or (read_answers STCNT2 s records) 0 0
