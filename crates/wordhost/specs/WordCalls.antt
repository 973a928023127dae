-- R-3: the string calls over an image, each an equality for what it returns and for every lent slice and place.
use Rattle.std.specs.Prelude.{ℕ, ◌≡◌, cond, List}
use Rattle.rules.specs.Codes.{number_of}
use Rattle.image.specs.Image.{image_of, state_at}
use Rattle.saved.specs.Accepted.{accepted}
use Rattle.strings.specs.declared.Passed.{Passed}
use Rattle.words.specs.Calls.{Wrote, Fetched, written_words, fetched_words}

-- what a write call leaves: the image, the words done, the number of bytes sent, the code, and the buffer for the sent bytes
pub record ImageWrite : Type 0 where
  pub image : List ℕ
  pub done : ℕ
  pub count : ℕ
  pub code : ℕ
  pub buffer : List ℕ

-- and a read call, with the buffer for the bytes read
pub record ImageFetch : Type 0 where
  pub image : List ℕ
  pub done : ℕ
  pub code : ℕ
  pub buffer : List ℕ

-- an image that is accepted: the call on its chip, and the new image in place of the old
abbrev pub wrote_over : Wrote → ImageWrite
wrote_over r =
    record { image = image_of r.state; done = r.done; count = r.count; code = number_of r.code; buffer = r.buffer }

abbrev pub fetched_over : Fetched → ImageFetch
fetched_over r = record { image = image_of r.state; done = r.done; code = number_of r.code; buffer = r.buffer }

-- "with R-5's refusals of an image": code 1, nothing is done and nothing written
abbrev pub refused_write : List ℕ → List ℕ → ImageWrite
refused_write image buffer = record { image = image; done = 0; count = 0; code = 1; buffer = buffer }

abbrev pub refused_fetch : List ℕ → List ℕ → ImageFetch
refused_fetch image buffer = record { image = image; done = 0; code = 1; buffer = buffer }

-- THE WRITE CALL
unfoldable pub image_written : List ℕ → List ℕ → ℕ → List ℕ → ImageWrite
image_written image bytes words buffer =
    cond (accepted image) (wrote_over (written_words (state_at image) bytes words buffer)) (refused_write image buffer)

-- THE READ CALL
unfoldable pub image_fetched : List ℕ → ℕ → List ℕ → ImageFetch
image_fetched image words buffer =
    cond (accepted image) (fetched_over (fetched_words (state_at image) words buffer)) (refused_fetch image buffer)

-- what the call of x leaves is this
pub record LeftWrite (x : ImageWrite) (m : List ℕ) (d n : ℕ) (b : List ℕ) (r : ℕ) : Type 0 where
  pub image : m ≡ x.image
  pub done : d ≡ x.done
  pub count : n ≡ x.count
  pub buffer : b ≡ x.buffer
  pub code : r ≡ x.code

pub record LeftFetch (x : ImageFetch) (m : List ℕ) (d : ℕ) (b : List ℕ) (r : ℕ) : Type 0 where
  pub image : m ≡ x.image
  pub done : d ≡ x.done
  pub buffer : b ≡ x.buffer
  pub code : r ≡ x.code

-- the calls on an image that is accepted
pub record IsWordsWritten (x : Wrote) (m b : List ℕ) (r : Passed) : Type 0 where
  pub image : m ≡ image_of x.state
  pub done : r.done ≡ x.done
  pub count : r.count ≡ x.count
  pub buffer : b ≡ x.buffer
  pub code : r.code ≡ x.code

pub record IsWordsRead (x : Fetched) (m b : List ℕ) (r : Passed) : Type 0 where
  pub image : m ≡ image_of x.state
  pub done : r.done ≡ x.done
  pub buffer : b ≡ x.buffer
  pub code : r.code ≡ x.code
