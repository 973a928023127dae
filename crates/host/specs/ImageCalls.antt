-- R-5: the calls over an image, each an equality for what it returns and for every lent slice.
use Rattle.std.specs.Prelude.{ℕ, zero, suc, ◌*◌, ◌≡◌, cond, List, [], ◌∷◌, ◌++◌, eqb, length, drop}
use Rattle.rules.specs.Codes.{number_of}
use Rattle.rules.specs.Answers.{answer_size}
use Rattle.rules.specs.Step.{step, answer, called, after, answers}
use Rattle.image.specs.Image.{image_of, state_at}
use Rattle.saved.specs.Accepted.{accepted}
use Rattle.step.specs.Runs.{records_of, stepped_in, joined}

-- "a 16-byte answer buffer gets code 1 and otherwise zeros": code 1 stands in the upper three bits
abbrev pub refused_answer : List ℕ
refused_answer = 32 ∷ 0 ∷ 0 ∷ 0 ∷ 0 ∷ 0 ∷ 0 ∷ 0 ∷ 0 ∷ 0 ∷ 0 ∷ 0 ∷ 0 ∷ 0 ∷ 0 ∷ 0 ∷ []

-- "another buffer is not touched"
abbrev pub refused_buffer : List ℕ → List ℕ
refused_buffer buffer = cond (eqb (length buffer) answer_size) refused_answer buffer

-- what a call leaves: the image, the answer buffer, the code
pub record ImageCall : Type 0 where
  pub image : List ℕ
  pub buffer : List ℕ
  pub code : ℕ

-- an image that is accepted: the call of the step on its chip, and the new image in place of the old
abbrev pub called_over : List ℕ → List ℕ → List ℕ → ImageCall
called_over image bytes buffer =
    let r = called (state_at image) bytes buffer in
    record { image = image_of r.state; buffer = r.buffer; code = number_of r.code }

-- "Refused image: code 1, found before the record is looked at; no byte of the image changes"
abbrev pub refused_call : List ℕ → List ℕ → ImageCall
refused_call image buffer = record { image = image; buffer = refused_buffer buffer; code = 1 }

-- THE CALL
unfoldable pub image_called : List ℕ → List ℕ → List ℕ → ImageCall
image_called image bytes buffer = cond (accepted image) (called_over image bytes buffer) (refused_call image buffer)

-- what the call of x leaves is this
pub record Left (x : ImageCall) (m b : List ℕ) (r : ℕ) : Type 0 where
  pub image : m ≡ x.image
  pub buffer : b ≡ x.buffer
  pub code : r ≡ x.code

abbrev pub IsImageCall : List ℕ → List ℕ → List ℕ → List ℕ → List ℕ → ℕ → Type 0
IsImageCall image bytes before image' buffer code = Left (image_called image bytes before) image' buffer code

abbrev pub IsCalledOver : List ℕ → List ℕ → List ℕ → List ℕ → List ℕ → ℕ → Type 0
IsCalledOver image bytes before image' buffer code = Left (called_over image bytes before) image' buffer code

-- one record with a buffer of sixteen bytes
pub record IsOneAnswered (m bytes n buffer : List ℕ) : Type 0 where
  pub image : n ≡ image_of (step (state_at m) bytes).state
  pub answer : buffer ≡ answer (state_at m) bytes

-- THE RUN: "records and answers from where the chip stands, the image tested once"
abbrev pub refusals : ℕ → List ℕ
refusals zero = []
refusals (suc n) = refused_answer ++ refusals n

-- as a refused call for each record that would be stepped
pub record IsRefusedRun (bytes before buffer : List ℕ) (r : ℕ) : Type 0 where
  pub count : r ≡ stepped_in bytes before
  pub answers : buffer ≡ refusals (stepped_in bytes before) ++ drop (16 * stepped_in bytes before) before

pub record ImageRun : Type 0 where
  pub image : List ℕ
  pub buffer : List ℕ
  pub count : ℕ

unfoldable pub image_run : List ℕ → List ℕ → List ℕ → ImageRun
image_run image bytes buffer =
    let n = stepped_in bytes buffer in
    let s = state_at image in
    cond (accepted image)
    (record {
      image = image_of (after s (records_of n bytes));
      buffer = joined (answers s (records_of n bytes)) ++ drop (16 * n) buffer;
      count = n;
    })
    (record { image = image; buffer = refusals n ++ drop (16 * n) buffer; count = n })

pub record IsImageRun (m bytes before n b : List ℕ) (r : ℕ) : Type 0 where
  pub image : n ≡ (image_run m bytes before).image
  pub buffer : b ≡ (image_run m bytes before).buffer
  pub count : r ≡ (image_run m bytes before).count
