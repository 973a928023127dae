-- The calls over an image: one record as a run of one, and refused answers one behind the other.
use Prim.Native.Nat.{ℕ, zero, suc, ◌+◌, ◌*◌, ◌/◌, ◌≤◌}
use mathlib.Core.Bool.{true, false}
use mathlib.Core.Path.{◌≡◌, refl, ap, sym, ◌∙◌}
use mathlib.Core.List.{List, [], ◌∷◌, ◌++◌, append-nil, append_assoc}
use native.Mathlib.Omega.{arith}
use native.Mathlib.Numerals.{add-one}
use lib.ListN.{length, take, drop, get_or, length-append, drop_of_length-le}
use lib.Seq.{take_all}
use borrow.Author.Tests.{eq-eqb, ne_eqb}
use Rattle.rules.specs.Records.{decode}
use Rattle.rules.specs.Answers.{Stepped, answer_of, answer_bytes}
use Rattle.rules.specs.Step.{step, answer, called, after, answers}
use Rattle.image.specs.Image.{IsImage, image_of, state_at}
use Rattle.saved.specs.Accepted.{accepted}
use Rattle.step.specs.Runs.{records_of, stepped_in, joined, IsRunOver}
use Rattle.step.proofs.Running.{placed}
use Rattle.step.proofs.Shows.{answer_code}
use Rattle.host.specs.ImageCalls.{refused_answer, refusals, called_over, image_called, image_run, refused_call, Left, IsOneAnswered, IsImageRun, IsRefusedRun}

-- ONE RECORD as a run of one
pub one_run : {m bytes before n buffer : List ℕ} {r : ℕ} → IsRunOver m bytes before n buffer r → stepped_in bytes before ≡ 1 → length before ≡ 16 → IsOneAnswered m (take 4 bytes) n buffer
one_run {m} {bytes} {before} w e f =
    let s = state_at m in
    let h : length before ≤ 16 = omega (arith, f) in
    let none : drop 16 before ≡ [] = drop_of_length-le before h in
    record {
      image = w.image ∙ ap (λ (k : ℕ). image_of (after s (records_of k bytes))) e;
      answer =
          w.answers ∙ ap (λ (k : ℕ). joined (answers s (records_of k bytes)) ++ drop (16 * k) before) e
          ∙ ap (λ (l : List ℕ). (answer s (take 4 bytes) ++ []) ++ l) none ∙ append-nil (answer s (take 4 bytes) ++ []) ∙ append-nil (answer s (take 4 bytes));
    }

one_as : {m bytes other n buffer : List ℕ} → step (state_at m) bytes ≡ step (state_at m) other → IsOneAnswered m bytes n buffer → IsOneAnswered m other n buffer
unfolding answer
one_as e w =
    record {
      image = w.image ∙ ap (λ (x : Stepped). image_of x.state) e;
      answer = w.answer ∙ ap (λ (x : Stepped). answer_bytes (answer_of x)) e;
    }

pub one_whole : {m bytes n buffer : List ℕ} → length bytes ≡ 4 → IsOneAnswered m (take 4 bytes) n buffer → IsOneAnswered m bytes n buffer
one_whole {m} {bytes} h w = one_as (ap (step (state_at m)) (take_all 4 bytes (omega (arith, h)))) w

-- a record not of four bytes is malformed, whatever it holds
pub one_malformed : {m bytes n buffer : List ℕ} → (length bytes ≡ 4 → ⊥) → IsOneAnswered m (0 ∷ []) n buffer → IsOneAnswered m bytes n buffer
unfolding step decode
one_malformed {m} {bytes} h w = one_as (rw (ne_eqb (length bytes) 4 h) refl) w

-- the call of the step, with any buffer
pub called_short : (bytes : List ℕ) {m before : List ℕ} → IsImage m → (length before ≡ 16 → ⊥) → Left (called_over m bytes before) m before 1
unfolding called
called_short bytes {before = before} g h = rw (ne_eqb (length before) 16 h) (record { image = g.packed; buffer = refl; code = refl })

pub called_one : (before : List ℕ) {m bytes n buffer : List ℕ} {r : ℕ} → length before ≡ 16 → IsOneAnswered m bytes n buffer → r ≡ get_or buffer 0 0 / 32 → Left (called_over m bytes before) n buffer r
unfolding called
called_one before {m} {bytes} h w e =
    rw (eq-eqb (length before) 16 h)
    (record {
      image = w.image;
      buffer = w.answer;
      code = e ∙ ap (λ (l : List ℕ). get_or l 0 0 / 32) w.answer ∙ answer_code (state_at m) bytes;
    })

-- THE CALL
pub call_refused_lem : (image bytes before : List ℕ) {buffer : List ℕ} {r : ℕ} → accepted image ≡ false → buffer ≡ (refused_call image before).buffer → r ≡ 1 → Left (image_called image bytes before) image buffer r
unfolding image_called
call_refused_lem image bytes before h e f = rw h (record { image = refl; buffer = e; code = f })

pub call_done_lem : (image bytes before : List ℕ) {m n buffer : List ℕ} {r : ℕ} → accepted image ≡ true → m ≡ image → Left (called_over m bytes before) n buffer r → {k : List ℕ} → k ≡ n → Left (image_called image bytes before) k buffer r
unfolding image_called
call_done_lem image bytes before h e w {k} f =
    rw h
    (record {
      image = f ∙ w.image ∙ ap (λ (m : List ℕ). (called_over m bytes before).image) e;
      buffer = w.buffer ∙ ap (λ (m : List ℕ). (called_over m bytes before).buffer) e;
      code = w.code ∙ ap (λ (m : List ℕ). (called_over m bytes before).code) e;
    })

-- THE RUN
pub run_refused : (image bytes before : List ℕ) {buffer : List ℕ} {r : ℕ} → accepted image ≡ false → IsRefusedRun bytes before buffer r → IsImageRun image bytes before image buffer r
unfolding image_run
run_refused image bytes before h w = record { image = rw h refl; buffer = rw h w.answers; count = rw h w.count }

pub run_done : (image bytes before : List ℕ) {m n buffer : List ℕ} {r : ℕ} → accepted image ≡ true → m ≡ image → IsRunOver m bytes before n buffer r → {k : List ℕ} → k ≡ n → IsImageRun image bytes before k buffer r
unfolding image_run
run_done image bytes before h e w f =
    let c = stepped_in bytes before in
    record {
      image = rw h (f ∙ w.image ∙ ap (λ (m : List ℕ). image_of (after (state_at m) (records_of c bytes))) e);
      buffer = rw h (w.answers ∙ ap (λ (m : List ℕ). joined (answers (state_at m) (records_of c bytes)) ++ drop (16 * c) before) e);
      count = rw h w.count;
    }

-- refused answers, one behind the other
pub refusals_length : (i : ℕ) → length (refusals i) ≡ 16 * i
refusals_length zero = refl
refusals_length (suc i) =
    let h = refusals_length i in
    length-append refused_answer (refusals i) ∙ omega (arith, h)

refusals_next : (i : ℕ) → refusals i ++ refused_answer ≡ refusals (suc i)
refusals_next zero = refl
refusals_next (suc i) = append_assoc refused_answer (refusals i) refused_answer ∙ ap (λ (l : List ℕ). refused_answer ++ l) (refusals_next i)

pub refusals_more : (i : ℕ) (o : List ℕ) {out b next : List ℕ} → out ≡ refusals i ++ drop (16 * i) o → b ≡ refused_answer → next ≡ (take (16 * i) out ++ b) ++ drop (16 * i + 16) out → next ≡ refusals (i + 1) ++ drop (16 * (i + 1)) o
refusals_more i o {out} p e h =
    h ∙ ap (λ (l : List ℕ). (take (16 * i) out ++ l) ++ drop (16 * i + 16) out) e ∙ placed (refusals i) o refused_answer i (refusals_length i) p
    ∙ ap (λ (l : List ℕ). l ++ drop (16 * (i + 1)) o) (refusals_next i ∙ ap refusals (sym (add-one i)))
