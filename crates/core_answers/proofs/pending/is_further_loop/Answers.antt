use Rattle.std.proofs.Common.{◌∙◌, sym}
use Rattle.edit_rules.specs.Kinds.{framework_of}
use Rattle.core_answers.proofs.PendingLemmas.{further_loop}
use Rattle.core_answers.proofs.pending.is_further_loop.Goals as goal

pub returns : goal.returns
returns c = further_loop (framework_of c.args.framework.now) c.args.query.now c.args.log.now c.args.name.now
    c.as_slice.result.now c.is_fresh.result (sym c.is_loop.ensures ∙ c.if-not-is_loop.false)
    (c.is_axiom_of.ensures.0 c.if-not-is_axiom_of.false) (c.as_slice.ensures ∙ c.in_ok-clause.ensures.table)
    (rw c.steps.ensures at c.is_fresh.ensures)
