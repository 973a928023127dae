use mathlib.Core.Path.{sym, ap, ◌∙◌}
use mathlib.Core.Bool.{◌&&◌}
use native.Mathlib.Omega.{arith}
use Rattle.rules.proofs.Logic.{never, left_true, right_true}
use Rattle.rules.specs.declared.chip.Conditions.{Conditions}
use Rattle.image.specs.Image.{state_at}
use Rattle.settling.specs.Looks.{looked_at}
use Rattle.settling.proofs.Carries.{scsi_held}
use Rattle.strings.proofs.Through.{low_held, none_held}
use Rattle.strings.proofs.sending.goes_out.Goals as goal

pub returns-then-n-eq0 : goal.returns-then-n-eq0
returns-then-n-eq0 c = record { n_nonzero = λ e. absurd (never e); m_value = λ e. absurd (never e) }

pub returns-then-m-gt0 : goal.returns-then-m-gt0
returns-then-m-gt0 c = record { n_nonzero = λ e. absurd (never e); m_value = λ e. absurd (never e) }

pub returns-then-from-n-gt255 : goal.returns-then-from-n-gt255
returns-then-from-n-gt255 c = record { n_nonzero = λ e. absurd (never e); m_value = λ e. absurd (never e) }

pub overflow_add-from : goal.overflow_add-from
overflow_add-from c =
    omega (arith, c.from.ensures, low_held c.args.m.now c.requires.image c.args.n, c.requires.n_bound)

pub returns : goal.returns
unfolding looked_at
returns c =
    let m = c.args.m.now in
    let r = c.conditions_of-c.result in
    let e = c.conditions_of-c.ensures in record {
      n_nonzero = λ h. (
        omega (arith, c.if-n-eq0.false),
        none_held (state_at m).transfer.scsi (omega (arith, c.if-m-gt0.false, scsi_held m c.requires.image)),
        omega (arith, c.if-from-n-gt255.false, c.from.ensures, low_held m c.requires.image c.args.n),
      );
      m_value = λ h.
          let both = left_true (r.enabled && r.outbound) r.synchronous h in (
            sym (ap (λ (d : Conditions). d.enabled) e) ∙ left_true r.enabled r.outbound both,
            sym (ap (λ (d : Conditions). d.outbound) e) ∙ right_true r.enabled r.outbound both,
            sym (ap (λ (d : Conditions). d.synchronous) e) ∙ right_true (r.enabled && r.outbound) r.synchronous h,
          );
    }
