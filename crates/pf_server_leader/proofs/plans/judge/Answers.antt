use Rattle.std.proofs.Common.{sym, ◌∙◌, refl}
use Rattle.std.proofs.lemmas.Bool.{false≢true}
use Rattle.pf_server_leader.proofs.Proposals.{at_most, old_format_here, bad_range_here, not_leader_here, window_full_here, fits_same}
use Rattle.pf_server_leader.proofs.plans.judge.Goals as goal

pub returns-then-is_early_mark : goal.returns-then-is_early_mark
returns-then-is_early_mark c = λ rest. old_format_here c.args.me.now c.args.op.now rest (sym c.is_early_mark.ensures ∙ c.if-is_early_mark.true)

pub returns-then-not-fits : goal.returns-then-not-fits
returns-then-not-fits c = λ rest. bad_range_here c.args.me.now c.args.op.now rest (sym c.is_early_mark.ensures ∙ c.if-is_early_mark.false)
    (fits_same _ _ _ _ c.range.ensures c.len.ensures.count ∙ sym c.fits.ensures ∙ c.if-not-fits.true)

pub returns-in_default : goal.returns-in_default
returns-in_default c = λ rest. not_leader_here c.args.me.now c.args.op.now rest (sym c.is_early_mark.ensures ∙ c.if-is_early_mark.false)
    (fits_same _ _ _ _ c.range.ensures c.len.ensures.count ∙ sym c.fits.ensures ∙ c.if-not-fits.false) c.in_default.not-Serving

pub returns-in-Err : goal.returns-in-Err
returns-in-Err c = λ rest. window_full_here c.args.me.now c.args.op.now rest (sym c.is_early_mark.ensures ∙ c.if-is_early_mark.false)
    (fits_same _ _ _ _ c.range.ensures c.len.ensures.count ∙ sym c.fits.ensures ∙ c.if-not-fits.false) c.in-Serving.leader c.in-Serving.is (c.in-Err.ensures.0 refl)

pub returns-in-Ok : goal.returns-in-Ok
returns-in-Ok c = record {
  marks = sym c.is_early_mark.ensures ∙ c.if-is_early_mark.false;
  fits = fits_same _ _ _ _ c.range.ensures c.len.ensures.count ∙ sym c.fits.ensures ∙ c.if-not-fits.false;
  serves = c.in-Serving.is;
  within = at_most _ _ (λ beyond. false≢true (c.in-Ok.ensures.1 beyond));
}
