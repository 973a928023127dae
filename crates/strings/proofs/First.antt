-- The first word, by the step: done and its bytes stored, or refused.
use mathlib.Core.Path.{◌≡◌, refl, ap, sym, ◌∙◌}
use mathlib.Core.Bool.{Bool, true, false}
use mathlib.Core.List.{List, [], ◌∷◌}
use Prim.Native.Nat.{ℕ}
use native.Mathlib.Omega.{arith}
use lib.ListN.{length}
use Rattle.rules.specs.State.{State}
use Rattle.rules.specs.Codes.{is_done, is_refusal, number_of}
use Rattle.rules.specs.Answers.{Stepped}
use Rattle.rules.specs.Step.{step}
use Rattle.rules.specs.declared.codes.Code.{Code}
use Rattle.rules.specs.declared.codes.Code.TheVariants.{Done, Malformed, Absent, Shut, NoRoom, NoBytes, BeyondLimit, TestValue}
use Rattle.image.specs.Image.{image_of}
use Rattle.event.specs.Outcomes.{Leaves}
use Rattle.event.specs.declared.stepping.Outcome.{Outcome}
use Rattle.words.specs.Words.{Strung, strung_none, stopped, one_done, one_then, strung, word_bytes}
use Rattle.words.specs.Calls.{stored_in}
use Rattle.words.proofs.Accesses.{shut_to_words}
use Rattle.words.proofs.Keeps.{WordDone}
use Rattle.strings.specs.Passed.{IsPassed}

-- a code by its number
by_number : (c : Code) → number_of c ≡ 0 → is_done c ≡ true
by_number Done e = refl
by_number Malformed e = absurd (omega arith)
by_number Absent e = absurd (omega arith)
by_number Shut e = absurd (omega arith)
by_number NoRoom e = absurd (omega arith)
by_number NoBytes e = absurd (omega arith)
by_number BeyondLimit e = absurd (omega arith)
by_number TestValue e = absurd (omega arith)

not_by_number : (c : Code) → (number_of c ≡ 0 → ⊥) → is_done c ≡ false
not_by_number Done e = absurd (e refl)
not_by_number Malformed e = refl
not_by_number Absent e = refl
not_by_number Shut e = refl
not_by_number NoRoom e = refl
not_by_number NoBytes e = refl
not_by_number BeyondLimit e = refl
not_by_number TestValue e = refl

-- what a call stores: the bytes of the values read, or the bytes sent
abbrev pub stores : Bool → Strung → List ℕ
stores true x = word_bytes x.values
stores false x = x.sent

-- what no word gives
abbrev pub nothing : State → Code → Strung
nothing s code = record { state = s; done = 0; code = code; sent = []; values = [] }

pub none_stored : (read : Bool) (s : State) (code : Code) → stores read (nothing s code) ≡ []
none_stored true s code = refl
none_stored false s code = refl

pub nothing_passed : (read : Bool) {x : Strung} {s : State} {a b : Code} → x ≡ nothing s a → {m : List ℕ} → m ≡ image_of s → b ≡ a → (before : List ℕ)
    → IsPassed x (stores read x) before m before (record { done = 0; count = 0; code = b })
nothing_passed read {x} {s} {a} e p q before =
    let l : stores read x ≡ [] = ap (stores read) e ∙ none_stored read s a in
    record {
      image = p ∙ ap (λ (y : Strung). image_of y.state) (sym e);
      done = ap (λ (y : Strung). y.done) (sym e);
      count = ap length (sym l);
      code = q ∙ ap (λ (y : Strung). y.code) (sym e);
      buffer = ap (λ (y : List ℕ). stored_in y before) (sym l);
    }

-- a word is done, which leaves the chip at rest and the port open, or refused
pub record Word (read : Bool) (s : State) (word : List ℕ) : Type 0 where
  pub done : is_done (step s word).code ≡ true → WordDone s (step s word)
  pub opens : is_done (step s word).code ≡ true → shut_to_words read (step s word).state.registers ≡ false
  pub stops : is_done (step s word).code ≡ false → is_refusal (step s word).code ≡ true

module _ {read : Bool} {s : State} {word : List ℕ} (w : Word read s word) where
  abbrev x : Stepped
  x = step s word

  -- refused, whatever comes after it
  pub is_stopped : is_done x.code ≡ false → (more : List (List ℕ)) → strung s (word ∷ more) ≡ stopped x
  unfolding strung one_then
  is_stopped h more = rw (w.stops h)

  pub is_done_lem : is_done x.code ≡ true → strung s (word ∷ []) ≡ one_done x (strung_none x.state)
  unfolding strung one_then
  is_done_lem h = rw (w.done h).code

  -- what it leaves and hands back
  module _ {m : List ℕ} {o : Outcome} (g : Leaves x m o) where
    abbrev Passes : List ℕ → List ℕ → ℕ → ℕ → Type 0
    Passes before out d n =
        IsPassed (strung s (word ∷ [])) (stores read (strung s (word ∷ []))) before m out (record { done = d; count = n; code = o.code })

    pub word_refused : (number_of o.code ≡ 0 → ⊥) → (before : List ℕ) → Passes before before 0 0
    unfolding stopped
    word_refused n before =
        nothing_passed read (is_stopped (not_by_number x.code (λ k. n (ap number_of g.code ∙ k))) []) g.image g.code before

    pub word_stored : number_of o.code ≡ 0 → {l before out : List ℕ} {n : ℕ} → stores read (one_done x (strung_none x.state)) ≡ l → n ≡ length l
        → out ≡ stored_in l before → Passes before out 1 n
    unfolding one_done strung_none
    word_stored z {before = before} e n q =
        let d = by_number x.code (sym (ap number_of g.code) ∙ z) in
        let y = is_done_lem d in
        let l = sym (ap (stores read) y ∙ e) in
        record {
          image = g.image ∙ ap (λ (r : Strung). image_of r.state) (sym y);
          done = ap (λ (r : Strung). r.done) (sym y);
          count = n ∙ ap length l;
          code = g.code ∙ (w.done d).code ∙ ap (λ (r : Strung). r.code) (sym y);
          buffer = q ∙ ap (λ (r : List ℕ). stored_in r before) l;
        }
