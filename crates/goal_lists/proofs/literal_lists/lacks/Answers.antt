use Rattle.certificate_claims.proofs.WordLemmas.{tests_member}
use Rattle.goal_lists.proofs.literal_lists.lacks.Goals as goal

pub returns : goal.returns
returns c = tests_member c.args.set.now c.args.number c.contains.result c.contains.ensures
