use Rattle.std.proofs.Common.{sym, ap, ◌∙◌}
use Rattle.lrat_text.specs.Lines.{lrat_kept}
use Rattle.lrat_text.proofs.KeptLines.{lrat_kept-nil, lrat_kept-skips, lrat_kept-keeps}
use Rattle.lrat_text.proofs.skips.next_lrat_line.Goals as goal

pub returns-then-not-is_no_step-clause-some : goal.returns-then-not-is_no_step-clause-some
returns-then-not-is_no_step-clause-some c = sym c.loop-line.invariant ∙ ap lrat_kept c.in-Some.ensures.steps
    ∙ lrat_kept-keeps _ _ (sym c.is_no_step.ensures ∙ c.if-not-is_no_step.true)

pub loop-line-preserved : goal.loop-line-preserved
loop-line-preserved c = sym (lrat_kept-skips _ _ (sym c.is_no_step.ensures ∙ c.if-not-is_no_step.false))
    ∙ sym (ap lrat_kept c.in-Some.ensures.steps) ∙ c.loop-line.invariant

pub returns-clause-none : goal.returns-clause-none
returns-clause-none c = sym c.loop-line.invariant ∙ ap lrat_kept c.in_default.ensures.steps.0 ∙ lrat_kept-nil
