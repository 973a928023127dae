use Prim.Native.Nat.{ℕ}
use mathlib.Core.Path.{sym, ap, ◌∙◌}
use mathlib.Core.Bool.{Bool, cond}
use mathlib.Core.List.{List, [], ◌∷◌, ◌++◌}
use lib.ListN.{take}
use native.Mathlib.Omega.{arith}
use Rattle.rules.specs.State.{Transfer}
use Rattle.rules.specs.StepC.{stored_by}
use Rattle.rules.proofs.Rest.{handshake_inbound, handshake_outbound}
use Rattle.laws.proofs.Lists.{take_one}
use Rattle.fifos.specs.Fifos.{sent_view, sent_of}
use Rattle.rules.specs.Changed.{with_transfer}
use Rattle.image.specs.Image.{image_of, state_at}
use Rattle.settling.proofs.Carries.{scsi_held}
use Rattle.settling.proofs.Handshakes.{pass_none, pass_stored, pass_sent}
use Rattle.settling.proofs.shakes.byte_passed.Goals as goal

pub byte_sent-requires : goal.byte_sent-requires
byte_sent-requires c =
    record { image = c.requires.image; scsi_nonzero = handshake_outbound c.args.c (state_at c.args.m.now).transfer c.if-c.true c.requires.m_value }

pub returns-then-c : goal.returns-then-c
returns-then-c c =
    let o = c.if-c.true in
    let t = (state_at c.args.m.now).transfer in
    let v = sent_view c.args.sent in (
      c.one_more.ensures ∙ ap (λ (b : ℕ). sent_of (v ++ (b ∷ []))) c.byte_sent.ensures.0
          ∙ ap (λ (l : List ℕ). sent_of (v ++ l)) (sym (take_one t.scsi (handshake_outbound c.args.c t o c.requires.m_value)))
          ∙ ap (λ (y : Bool). sent_of (cond y (v ++ take 1 t.scsi) v)) (sym o),
      c.byte_sent.ensures.1
          ∙ ap (λ (x : Transfer). image_of (with_transfer x (state_at c.args.m.now))) (sym (pass_sent c.args.c.outbound (stored_by c.args.c) t o)),
    )

pub returns-then-c-2 : goal.returns-then-c-2
returns-then-c-2 c =
    let t = (state_at c.args.m.now).transfer in
    let v = sent_view c.args.sent in (
      c.requires.sent_tidy ∙ ap (λ (y : Bool). sent_of (cond y (v ++ take 1 t.scsi) v)) (sym c.if-c.false),
      c.requires.image.packed
          ∙ ap (λ (x : Transfer). image_of (with_transfer x (state_at c.args.m.now))) (sym (pass_none c.args.c.outbound c.args.c.synchronous c.args.c.byte t c.if-c.false c.if-c-2.true)),
    )

pub scsi_pushed-requires : goal.scsi_pushed-requires
scsi_pushed-requires c =
    let m = c.args.m.now in
    record { image = c.requires.image; scsi_count_place_bound = omega (arith, scsi_held m c.requires.image, handshake_inbound c.args.c (state_at m).transfer c.if-c.false c.if-c-2.false c.requires.m_value) }

pub returns : goal.returns
returns c =
    let o = c.if-c.false in
    let t = (state_at c.args.m.now).transfer in
    let v = sent_view c.args.sent in (
      c.requires.sent_tidy ∙ ap (λ (y : Bool). sent_of (cond y (v ++ take 1 t.scsi) v)) (sym o),
      c.scsi_pushed.ensures
          ∙ ap (λ (x : Transfer). image_of (with_transfer x (state_at c.args.m.now))) (sym (pass_stored c.args.c.outbound c.args.c.synchronous c.args.c.byte (state_at c.args.m.now) o c.if-c-2.false)),
    )
