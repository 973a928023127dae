-- R-3: "the same state, bytes sent and stops as the single word events one after another, up to the first refusal".
use Rattle.std.specs.Prelude.{ℕ, zero, suc, ◌+◌, ◌/◌, ◌%◌, cond, List, [], ◌∷◌, ◌++◌, get_or, drop, replicate}
use Rattle.rules.specs.State.{State}
use Rattle.rules.specs.Codes.{is_refusal}
use Rattle.rules.specs.Answers.{Stepped}
use Rattle.rules.specs.Step.{step}
use Rattle.rules.specs.declared.codes.Code.{Code}
use Rattle.rules.specs.declared.codes.Code.TheVariants.{Done}

-- the record of a word write: kind 3, the word its payload
abbrev pub word_write : ℕ → ℕ → List ℕ
word_write low high = 0x60 ∷ 0 ∷ high ∷ low ∷ []

-- the records of n word writes; "A word's low byte comes first."
abbrev pub word_writes : ℕ → List ℕ → List (List ℕ)
word_writes zero bytes = []
word_writes (suc n) bytes = word_write (get_or bytes 0 0) (get_or bytes 1 0) ∷ word_writes n (drop 2 bytes)

-- the records of n word reads: kind 4
abbrev pub word_read : List ℕ
word_read = 0x80 ∷ 0 ∷ 0 ∷ 0 ∷ []

abbrev pub word_reads : ℕ → List (List ℕ)
word_reads n = replicate n word_read

-- what records give, one after another up to the first refusal: the state, how many were done, the refusal that stopped them (0 if
-- none), the bytes sent in order, and the values read
pub record Strung : Type 0 where
  pub state : State
  pub done : ℕ
  pub code : Code
  pub sent : List ℕ
  pub values : List ℕ

-- before any record
unfoldable pub strung_none : State → Strung
strung_none s = record { state = s; done = 0; code = Done; sent = []; values = [] }

-- "The refused word itself changes nothing and is not done": what its step leaves, and its code
unfoldable pub stopped : Stepped → Strung
stopped r = record { state = r.state; done = 0; code = r.code; sent = []; values = [] }

-- one that is done, and what those after it give
unfoldable pub one_done : Stepped → Strung → Strung
one_done r rest =
    record {
      state = rest.state;
      done = 1 + rest.done;
      code = rest.code;
      sent = r.sent ++ rest.sent;
      values = r.value ∷ rest.values;
    }

unfoldable pub one_then : Stepped → Strung → Strung
one_then r rest = cond (is_refusal r.code) (stopped r) (one_done r rest)

-- THE ITERATION OF THE STEP
unfoldable pub strung : State → List (List ℕ) → Strung
strung s [] = strung_none s
strung s (bytes ∷ more) = one_then (step s bytes) (strung (step s bytes).state more)

-- the bytes of the values read, low bytes first
abbrev pub word_bytes : List ℕ → List ℕ
word_bytes [] = []
word_bytes (v ∷ vs) = v % 256 ∷ v / 256 ∷ word_bytes vs
