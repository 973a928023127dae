-- Document 01, "Marked examples (P)", as tables of rows: a record and the answer it gets, each table from power reset.
use Rattle.std.specs.Prelude.{ℕ, zero, suc, ◌+◌, ◌*◌, ◌/◌, ◌%◌, ◌^◌, Bool, true, false, ◌&&◌, cond, List, [], ◌∷◌, ◌++◌, eqb}
use Rattle.rules.specs.State.{State, power_reset}
use Rattle.rules.specs.Step.{step, answer}

-- a record of four bytes and an answer of sixteen, each written as one number
pub record Row : Type 0 where
  pub event : ℕ
  pub reply : ℕ

abbrev pub row : ℕ → ℕ → Row
row e a = record { event = e; reply = a }

-- the n lowest bytes of a number, the highest first
abbrev pub bytes_of : ℕ → ℕ → List ℕ
bytes_of zero v = []
bytes_of (suc n) v = v / 256 ^ n % 256 ∷ bytes_of n v

abbrev pub same : List ℕ → List ℕ → Bool
same [] [] = true
same [] (y ∷ ys) = false
same (x ∷ xs) [] = false
same (x ∷ xs) (y ∷ ys) = eqb x y && same xs ys

-- a row that does not hold: its place in the table, and the answer that came
pub record Miss : Type 0 where
  pub place : ℕ
  pub came : List ℕ

-- the rows of a table that do not hold, from a state
unfoldable pub misses_from : State → ℕ → List Row → List Miss
misses_from s k [] = []
misses_from s k (r ∷ rs) =
    let bytes = bytes_of 4 r.event in
    let came = answer s bytes in
    cond (same came (bytes_of 16 r.reply)) [] (record { place = k; came = came } ∷ [])
    ++ misses_from (step s bytes).state (suc k) rs

-- the rows of several tables that do not hold, each table from power reset
unfoldable pub misses : List (List Row) → List Miss
misses [] = []
misses (t ∷ ts) = misses_from power_reset 0 t ++ misses ts

-- n word writes of 0, where the host FIFO holds `held` bytes
unfoldable pub words : ℕ → ℕ → List Row
words zero held = []
words (suc n) held = row 0x60000000 ((held + 2) * 2 ^ 64) ∷ words n (held + 2)

-- the seven records with their printed lines
unfoldable pub printed : List Row
printed =
    row 0x00000000 0x00000000000000000000000000000000
    ∷ row 0x32000088 0x00000000000000000000000000000000
    ∷ row 0x210000E0 0x00000000000000000000000000000000
    ∷ row 0x60004241 0x00100000000002000000000000000000
    ∷ row 0xA0000006 0x01050000014101004100000000000000
    ∷ row 0xA0000004 0x00000000000001000000000000000000
    ∷ row 0x48000000 0x00000001000001000000000000000000
    ∷ []

-- "host FIFO at 126 takes a word"
unfoldable pub word_at126 : List Row
word_at126 =
    row 0x32000088 0x00000000000000000000000000000000
    ∷ words 63 0 ++ (row 0x60000000 0x00000000000000800000000000000000 ∷ [])

-- "at 127 gives 4": a byte first, then words
unfoldable pub word_at127 : List Row
word_at127 =
    row 0x320000C8 0x00000000000000000000000000000000
    ∷ row 0x36000055 0x00000000000000010000000000000000
    ∷ row 0x32000088 0x00000000000000010000000000000000
    ∷ words 63 1 ++ (row 0x60000000 0x800000000000007F0000000000000000 ∷ [])

-- "7 ticks leave BUSFREE clear, 8 set it": 34Ch read after 7, and after one more
unfoldable pub ticks78 : List Row
ticks78 =
    row 0xC0000007 0x00000000000000000000000000000000
    ∷ row 0x4C000000 0x00000000000000000000000000000000
    ∷ row 0xC0000001 0x00000000000000000000000000000000
    ∷ row 0x4C000000 0x00000008000000000000000000000000
    ∷ []

-- "kind 7 gives 1"
unfoldable pub kind7 : List Row
kind7 = row 0xE0000000 0x20000000000000000000000000000000 ∷ []

-- "stack place 15 goes to 0 without ENSTK32, to 16 with it": 353h read after one access to 35Dh
unfoldable pub stack16 : List Row
stack16 =
    row 0x3300000F 0x00000000000000000000000000000000
    ∷ row 0x3D0000AA 0x00000000000000000000000000000000
    ∷ row 0x53000000 0x00000000000000000000000000000000
    ∷ []

unfoldable pub stack32 : List Row
stack32 =
    row 0x3300004F 0x00000000000000000000000000000000
    ∷ row 0x3D0000AA 0x00000000000000000000000000000000
    ∷ row 0x53000000 0x00000050000000000000000000000000
    ∷ []

-- the same through the byte alone, whichever place 353h shows: the second byte stands at place 0, or at place 16
unfoldable pub byte_at0 : List Row
byte_at0 =
    row 0x3300000F 0x00000000000000000000000000000000
    ∷ row 0x3D0000AA 0x00000000000000000000000000000000
    ∷ row 0x3D0000BB 0x00000000000000000000000000000000
    ∷ row 0x33000000 0x00000000000000000000000000000000
    ∷ row 0x5D000000 0x000000BB000000000000000000000000
    ∷ []

unfoldable pub byte_at16 : List Row
byte_at16 =
    row 0x3300004F 0x00000000000000000000000000000000
    ∷ row 0x3D0000AA 0x00000000000000000000000000000000
    ∷ row 0x3D0000BB 0x00000000000000000000000000000000
    ∷ row 0x33000050 0x00000000000000000000000000000000
    ∷ row 0x5D000000 0x000000BB000000000000000000000000
    ∷ []

-- all cases marked P
unfoldable pub marked : List (List Row)
marked = printed ∷ word_at126 ∷ word_at127 ∷ ticks78 ∷ kind7 ∷ stack16 ∷ stack32 ∷ byte_at0 ∷ byte_at16 ∷ []
