use Rattle.std.proofs.Common.{sym, ap, ◌∙◌}
use Rattle.num_text.specs.Lines.{kept}
use Rattle.num_text.proofs.KeptLines.{kept-nil, kept-skips, kept-keeps}
use Rattle.num_text.proofs.skips.next_kept.Goals as goal

pub returns-then-not-is_skipped-clause-some : goal.returns-then-not-is_skipped-clause-some
returns-then-not-is_skipped-clause-some c = sym c.loop-line.invariant ∙ ap kept c.in-Some.ensures.steps
    ∙ kept-keeps _ _ (sym c.is_skipped.ensures ∙ c.if-not-is_skipped.true)

pub loop-line-preserved : goal.loop-line-preserved
loop-line-preserved c = sym (kept-skips _ _ (sym c.is_skipped.ensures ∙ c.if-not-is_skipped.false))
    ∙ sym (ap kept c.in-Some.ensures.steps) ∙ c.loop-line.invariant

pub returns-clause-none : goal.returns-clause-none
returns-clause-none c = sym c.loop-line.invariant ∙ ap kept c.in_default.ensures.steps.0 ∙ kept-nil
