use native.Mathlib.Omega.{arith}
use Rattle.host.proofs.OverImages.{one_run, one_whole, one_malformed}
use Rattle.host.proofs.over.one_answered.Goals as goal

pub returns-then-bytes-eq-RECORD_SIZE : goal.returns-then-bytes-eq-RECORD_SIZE
returns-then-bytes-eq-RECORD_SIZE c =
    let four = c.if-bytes-eq-RECORD_SIZE.true in
    one_whole four (one_run c.answered.ensures (omega (arith, four, c.requires.answer_len)) c.requires.answer_len)

pub returns-else-bytes-eq-RECORD_SIZE : goal.returns-else-bytes-eq-RECORD_SIZE
returns-else-bytes-eq-RECORD_SIZE c =
    one_malformed c.if-bytes-eq-RECORD_SIZE.false (one_run c.answered-else-bytes-eq-RECORD_SIZE.ensures (omega (arith, c.requires.answer_len)) c.requires.answer_len)
