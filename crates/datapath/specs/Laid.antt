-- The array as four parts, and k bytes taken off the front of n.
use Rattle.std.specs.Prelude.{ℕ, ◌+◌, ◌-◌, List, [], ◌++◌, drop, replicate}
use Rattle.std.proofs.Math.Seq.{paste}
use Rattle.rules.specs.Numbers.{padded}

-- head, SCSI FIFO, stack and host FIFO
unfoldable pub laid : List ℕ → List ℕ → List ℕ → List ℕ → List ℕ
laid head scsi stack host = head ++ (padded 8 scsi ++ (stack ++ (padded 128 host ++ [])))

-- n - k bytes moved down by k, and zeros behind them
unfoldable pub lowered : List ℕ → ℕ → ℕ → ℕ → List ℕ
lowered m at n k = paste (paste m at (drop (at + k) m) (n - k)) (at + (n - k)) (replicate k 0) k
