use mathlib.Core.Path.{◌≡◌, sym, ap, ◌∙◌}
use mathlib.Core.Bool.{Bool, false, ◌||◌}
use Rattle.rules.specs.Numbers.{byte_of}
use Rattle.rules.specs.Seen.{phase_bsy, phase_sel, ack_driven}
use Rattle.rules.specs.State.{State}
use Rattle.rules.specs.Answers.{control_driven}
use Rattle.rules.specs.declared.chip.Phase.{Phase}
use Rattle.rules.specs.declared.chip.Phase.TheVariants.{Idle}
use Rattle.image.specs.Image.{state_at, phase_of}
use Rattle.reads.proofs.answers.control_driven.Goals as goal

-- with the lines that the phase gives
by_lines : (s : State) {sel bsy : Bool} → sel ≡ phase_sel s.sequencer.phase → bsy ≡ phase_bsy s.sequencer.phase → byte_of false false false s.registers.scsisig.atno (s.registers.scsisig.selo || sel) (s.registers.scsisig.bsyo || bsy) false (ack_driven s) ≡ control_driven s
unfolding control_driven
by_lines s e f = rw (e, f)

-- an idle sequencer drives neither
idle_sel : {p : Phase} → p ≡ Idle → false ≡ phase_sel p
unfolding phase_sel
idle_sel e = sym (ap phase_sel e)

idle_bsy : {p : Phase} → p ≡ Idle → false ≡ phase_bsy p
unfolding phase_bsy
idle_bsy e = sym (ap phase_bsy e)

pub returns-then-m-eq0 : goal.returns-then-m-eq0
unfolding state_at
returns-then-m-eq0 c =
    let m = c.args.m.now in
    let e : (state_at m).sequencer.phase ≡ Idle = ap phase_of c.if-m-eq0.true in
    c.control_with.ensures ∙ by_lines (state_at m) (idle_sel e) (idle_bsy e)

pub returns-else-m-eq0 : goal.returns-else-m-eq0
returns-else-m-eq0 c =
    let m = c.args.m.now in
    let e = c.phase-p.ensures in
    c.control_with-else-m-eq0.ensures
    ∙ by_lines (state_at m) (c.drives_sel.ensures ∙ ap phase_sel e) (c.drives_bsy.ensures ∙ ap phase_bsy e)
