-- A state in which the sequencer sees what it saw in a state at rest has nothing to do there either.
use mathlib.Core.Path.{◌≡◌, sym, ◌∙◌}
use Rattle.rules.specs.State.{State}
use Rattle.rules.specs.Seen.{rst_seen}
use Rattle.rules.specs.Sequencer.{asked_by, called, sequenced_of}
use Rattle.rules.proofs.Resolving.{Sequential, Quieted, Calm, rest_quieted, rest_calm, sequential_by}

-- all that it looks at without a tick
pub record Alike (s b : State) : Type 0 where
  pub rst : rst_seen b ≡ rst_seen s
  pub phase : b.sequencer.phase ≡ s.sequencer.phase
  pub selingo : b.sequencer.status.selingo ≡ s.sequencer.status.selingo
  pub called : called b ≡ called s
  pub sel : b.lines.sel ≡ s.lines.sel
  pub bsy : b.lines.bsy ≡ s.lines.bsy
  pub asked : asked_by b.registers.scsiseq.enselo b.registers.scsiseq.temodeo
      ≡ asked_by s.registers.scsiseq.enselo s.registers.scsiseq.temodeo
  pub quiet : b.quiet ≡ s.quiet

module _ (s b : State) (k : Alike s b) where
  alike_quieted : Quieted s → Quieted b
  alike_quieted q = record { phase = rw k.phase q.phase; selingo = k.selingo ∙ q.selingo }

  alike_calm : Calm s (sequenced_of s) → Calm b (sequenced_of b)
  unfolding sequenced_of
  alike_calm c =
      record {
        uncalled = rw (k.called, k.phase) c.uncalled;
        let_go = rw (k.phase, k.sel) c.let_go;
        forestalled = rw (k.phase, k.sel) c.forestalled;
        connected = rw (k.phase, k.bsy) c.connected;
        begun = rw (k.phase, k.asked) c.begun;
        withdrawn = rw (k.phase, k.asked, k.quiet) c.withdrawn;
        answered = rw (k.called, k.phase) c.answered;
      }

  pub sequential_alike : Sequential s → Sequential b
  sequential_alike h =
      sequential_by b (λ e. alike_quieted (rest_quieted s h (sym k.rst ∙ e))) (λ e. alike_calm (rest_calm s h (sym k.rst ∙ e)))
