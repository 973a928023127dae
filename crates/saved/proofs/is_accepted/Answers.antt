-- Each test was made where those before it were passed.
use Rattle.saved.proofs.Acceptance.{counts_fitting}
use Rattle.saved.proofs.Packing.{tests_image}
use Rattle.saved.proofs.is_accepted.Goals as goal
use Rattle.saved.proofs.is_accepted.Goals.{then-counts_fit, else-counts_fit, then-registers_clear, else-registers_clear, then-others_clear, else-others_clear}

pub past_clear-requires : goal.past_clear-requires
past_clear-requires c =
    elim c.if-registers_clear.branch [
      | then-registers_clear o ↦
          elim c.if-counts_fit.branch [ then-counts_fit r ↦ counts_fitting c.args.m.now (cc) | else-counts_fit r ↦ cc ]
      | else-registers_clear o ↦ cc
    ]

pub is_resting-requires : goal.is_resting-requires
is_resting-requires c =
    elim c.if-others_clear.branch [
      | then-others_clear p ↦
          elim c.if-registers_clear.branch [
            | then-registers_clear o ↦
                elim c.if-counts_fit.branch [
                  | then-counts_fit r ↦ tests_image c.args.m.now c.known.ensures (cc) (cc) (cc) (cc)
                  | else-counts_fit r ↦ cc
                ]
            | else-registers_clear o ↦ cc
          ]
      | else-others_clear p ↦ cc
    ]
