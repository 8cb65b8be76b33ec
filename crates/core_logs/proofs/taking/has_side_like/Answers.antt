use Rattle.std.proofs.Common.{rules}
use Rattle.std.proofs.lemmas.Iterator.{YieldsList-from_slice}
use Rattle.oracle_face.specs.Logs.{SideClause}
use Rattle.core_logs.specs.Tests.{IsSideLike}
use Rattle.core_logs.proofs.SourceTests.{side_there}
use Rattle.core_logs.proofs.Walked.{any_found}
use Rattle.core_logs.proofs.taking.has_side_like.Goals as goal

pub returns : goal.returns
returns c =
    side_there _ c.args.sides.now c.args.literals.now
    (any_found _ _ _ (λ (x : SideClause). IsSideLike x c.args.literals.now) c.args.sides.now c.any.ensures.ran
    (YieldsList-from_slice c.args.sides.now cc) (λ x q k. search rules) (λ x q k. search rules))
