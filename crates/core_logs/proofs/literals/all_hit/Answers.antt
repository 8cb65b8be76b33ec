use Rattle.std.proofs.Common.{rules}
use Rattle.std.proofs.lemmas.Iterator.{YieldsList-from_slice}
use Rattle.core_logs.specs.Tests.{IsHit}
use Rattle.core_logs.proofs.Walked.{all_found}
use Rattle.core_logs.proofs.literals.all_hit.Goals as goal

pub returns : goal.returns
returns c =
    all_found _ _ _ IsHit c.args.clause.now c.all.ensures.ran (YieldsList-from_slice c.args.clause.now cc)
    (λ x q k. search rules) (λ x q k. search rules)
