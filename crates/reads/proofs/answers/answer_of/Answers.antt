use Prim.Native.Nat.{ℕ}
use mathlib.Core.Path.{◌≡◌, refl, ap, ◌∙◌}
use mathlib.Core.Bool.{Bool, true, false, ◌&&◌, ◌||◌, cond}
use lib.ListN.{get_or}
use Rattle.rules.specs.Numbers.{ones, even}
use Rattle.rules.specs.Seen.{normal, phase_drives, phase_data, byte_driving, byte_driven, driving, data_driven, parity_driven}
use Rattle.rules.specs.State.{State}
use Rattle.rules.specs.Answers.{answer_bytes}
use Rattle.image.specs.Image.{state_at}
use Rattle.image.specs.Layout.{offset_place}
use Rattle.reads.specs.Answering.{byte_given, answer_with}
use Rattle.image.proofs.AtPlaces.{at_scsi, at_host}
use Rattle.reads.proofs.answers.answer_of.Goals as goal

-- by what was judged of driving: where the sequencer gives data, data is driven
by_phase : (p b : Bool) (x y : ℕ) → cond (p || b) (cond p x y) 0 ≡ cond p x (cond b y 0)
by_phase true b x y = refl
by_phase false b x y = refl

data_by : (s : State) {d : Bool} {b : ℕ} → d ≡ driving s → b ≡ cond d (byte_given s) 0 → b ≡ data_driven s
unfolding driving data_driven byte_driven byte_given
data_by s {d} {b} e f =
    f ∙ ap (λ (t : Bool). cond t (byte_given s) 0) e
    ∙ by_phase (phase_drives s.sequencer.phase) (byte_driving s) (phase_data s.sequencer.phase s.registers.scsiid) (cond (normal s.registers) s.transfer.last s.registers.scsidat)

parity_by : (s : State) {d p : Bool} {b : ℕ} → d ≡ driving s → b ≡ data_driven s → p ≡ (d && even (ones b)) → p ≡ parity_driven s
unfolding parity_driven
parity_by s e f h = rw (← e, ← f) h

-- field by field
pub returns : goal.returns
unfolding answer_with state_at
returns c =
    let m = c.args.m.now in
    let drives = c.is_driving-driving.ensures in
    let driven = data_by (state_at m) drives c.byte_driven-driven.ensures in
    c.answer_bytes.ensures
    ∙ ap answer_bytes
    (λ i.
    record {
      code = c.args.code;
      irq = c.irq.ensures i;
      acks = c.args.acks;
      moves = c.args.moves;
      driving = drives i;
      rst = c.scsirsto.ensures i;
      parity = parity_by (state_at m) drives driven c.parity_of.ensures i;
      value = c.args.value;
      control = c.control_driven.ensures i;
      driven = driven i;
      offset = get_or m offset_place 0;
      scsi = at_scsi m c.requires i;
      host = at_host m c.requires i;
      sent = c.args.sent;
    })
