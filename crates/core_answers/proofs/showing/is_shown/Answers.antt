use Rattle.edit_rules.specs.Kinds.{framework_of}
use Rattle.certificate_making.proofs.MakingLemmas.{row_sets}
use Rattle.core_answers.proofs.showing.is_shown.Goals as goal

pub claims_of-requires : goal.claims_of-requires
claims_of-requires c = rw c.in_ok-row.ensures (row_sets (framework_of c.args.framework.now) c.args.query.now
    c.args.answer.now c.args.sets.now (c.in_ok-pass.ensures.0 c.if-not-pass.false))
