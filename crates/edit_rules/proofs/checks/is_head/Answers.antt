use Rattle.std.proofs.Common.{◌∙◌, ap, not}
use Rattle.edit_rules.proofs.TestLemmas.{heads_tell}
use Rattle.edit_rules.proofs.checks.is_head.Goals as goal

pub returns : goal.returns
returns c =
    ap not c.is_empty.ensures
    ∙ heads_tell c.args.plain.now.rules c.args.atom c.headed_by.result.now c.headed_by.ensures.rules
