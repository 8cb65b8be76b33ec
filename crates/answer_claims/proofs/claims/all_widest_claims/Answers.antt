use Rattle.std.proofs.Common.{◌∙◌}
use Rattle.edit_rules.specs.Kinds.{framework_of}
use Rattle.answer_claims.proofs.claims.all_widest_claims.Goals as goal

pub returns : goal.returns
returns c = c.in_ok-list.ensures (framework_of c.args.framework.now) c.in_ok-first.ensures
    (c.as_slice.ensures ∙ c.in_ok-ranges.ensures)
