use Rattle.std.proofs.Common.{Contains}
use Rattle.edit_rules.specs.Pairs.{has_pair}
use Rattle.edit_rules.proofs.TestLemmas.{has_pair_tells, same_test}
use Rattle.edit_rules.proofs.checks.is_contrary.Goals as goal

pub returns : goal.returns
returns c =
    same_test c.has_contrary.result (has_pair c.args.plain.now.contraries (c.args.atom, c.args.contrary))
    (Contains c.args.plain.now.contraries (c.args.atom, c.args.contrary)) c.has_contrary.ensures
    (has_pair_tells c.args.plain.now.contraries (c.args.atom, c.args.contrary))
