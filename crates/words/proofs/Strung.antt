-- Records up to the first refusal, in two parts.
use Prim.Native.Nat.{ℕ, ◌+◌}
use mathlib.Core.Path.{◌≡◌, refl, sym, ◌∙◌, ap}
use mathlib.Core.Bool.{Bool, true, false, cond}
use mathlib.Core.List.{List, [], ◌∷◌, ◌++◌, append_assoc}
use native.Mathlib.Nat.{add_assoc, zero-add}
use Rattle.rules.specs.State.{State}
use Rattle.rules.specs.Codes.{is_refusal}
use Rattle.rules.specs.Answers.{Stepped}
use Rattle.rules.specs.Step.{step}
use Rattle.rules.proofs.Refusals.{refusal_changes_nothing}
use Rattle.words.specs.Words.{Strung, strung_none, stopped, one_done, one_then, strung}

-- those of one part that all were done, and those after it
unfoldable pub strung_after : Strung → Strung → Strung
strung_after first rest =
    record {
      state = rest.state;
      done = first.done + rest.done;
      code = rest.code;
      sent = first.sent ++ rest.sent;
      values = first.values ++ rest.values;
    }

-- a first part that was stopped ends them
unfoldable pub strung_then : Strung → Strung → Strung
strung_then first rest = cond (is_refusal first.code) first (strung_after first rest)

stopped_then : (r : Stepped) (rest : Strung) → is_refusal r.code ≡ true → strung_then (stopped r) rest ≡ stopped r
unfolding strung_then stopped
stopped_then r rest e = rw e

done_then : (r : Stepped) (a b : Strung) → one_done r (strung_then a b) ≡ strung_then (one_done r a) b
unfolding strung_then one_done strung_after
done_then r a b = go (is_refusal a.code) refl
  where
    joined : one_done r (strung_after a b) ≡ strung_after (one_done r a) b
    joined =
        λ i.
        record {
          state = b.state;
          done = sym (add_assoc 1 a.done b.done) i;
          code = b.code;
          sent = sym (append_assoc r.sent a.sent b.sent) i;
          values = r.value ∷ (a.values ++ b.values);
        }

    go : (c : Bool) → is_refusal a.code ≡ c → one_done r (cond (is_refusal a.code) a (strung_after a b)) ≡ cond (is_refusal a.code) (one_done r a) (strung_after (one_done r a) b)
    go true e = rw e
    go false e = rw e joined

none_then : (s : State) (rest : Strung) → rest ≡ strung_then (strung_none s) rest
unfolding strung_then strung_none strung_after
none_then s rest =
    λ i. record { state = rest.state; done = sym (zero-add rest.done) i; code = rest.code; sent = rest.sent; values = rest.values }

one_then_lem : (r : Stepped) (a : Strung) (more : List (List ℕ))
    → one_then r (strung_then a (strung a.state more)) ≡ strung_then (one_then r a) (strung (one_then r a).state more)
unfolding one_then one_done
one_then_lem r a more = go (is_refusal r.code) refl
  where
    go : (c : Bool) → is_refusal r.code ≡ c
        → cond c (stopped r) (one_done r (strung_then a (strung a.state more))) ≡ strung_then (cond c (stopped r) (one_done r a)) (strung (cond c (stopped r) (one_done r a)).state more)
    go true e = sym (stopped_then r _ e)
    go false e = done_then r a (strung a.state more)

-- RECORDS IN TWO PARTS
pub strung_append : (s : State) (first rest : List (List ℕ)) → strung s (first ++ rest) ≡ strung_then (strung s first) (strung (strung s first).state rest)
unfolding strung strung_none
strung_append s [] rest = none_then s (strung s rest)
strung_append s (bytes ∷ more) rest =
    let r = step s bytes in
    ap (one_then r) (strung_append r.state more rest) ∙ one_then_lem r (strung r.state more) rest

-- "THE REFUSED WORD ITSELF CHANGES NOTHING AND IS NOT DONE": a record that is refused ends them, the chip as it was
pub refused_stops : (s : State) (bytes : List ℕ) (more : List (List ℕ)) → is_refusal (step s bytes).code ≡ true
    → strung s (bytes ∷ more) ≡ record { state = s; done = 0; code = (step s bytes).code; sent = []; values = [] }
unfolding strung one_then stopped
refused_stops s bytes more e =
    rw e
    (λ i.
    record { state = (refusal_changes_nothing s bytes e).state i; done = 0; code = (step s bytes).code; sent = []; values = [] })
