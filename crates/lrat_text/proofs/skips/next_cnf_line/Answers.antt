use Rattle.std.proofs.Common.{sym, ap, ◌∙◌}
use Rattle.lrat_text.specs.Lines.{cnf_kept}
use Rattle.lrat_text.proofs.KeptLines.{cnf_kept-nil, cnf_kept-skips, cnf_kept-keeps}
use Rattle.lrat_text.proofs.skips.next_cnf_line.Goals as goal

pub returns-then-not-is_comment-clause-some : goal.returns-then-not-is_comment-clause-some
returns-then-not-is_comment-clause-some c = sym c.loop-line.invariant ∙ ap cnf_kept c.in-Some.ensures.steps
    ∙ cnf_kept-keeps _ _ (sym c.is_comment.ensures ∙ c.if-not-is_comment.true)

pub loop-line-preserved : goal.loop-line-preserved
loop-line-preserved c = sym (cnf_kept-skips _ _ (sym c.is_comment.ensures ∙ c.if-not-is_comment.false))
    ∙ sym (ap cnf_kept c.in-Some.ensures.steps) ∙ c.loop-line.invariant

pub returns-clause-none : goal.returns-clause-none
returns-clause-none c = sym c.loop-line.invariant ∙ ap cnf_kept c.in_default.ensures.steps.0 ∙ cnf_kept-nil
