use Rattle.std.proofs.Common.{rules}
use Rattle.std.proofs.lemmas.Iterator.{YieldsList-from_slice}
use Rattle.oracle_face.specs.Logs.{LogStep}
use Rattle.core_logs.specs.Tests.{IsPartOf}
use Rattle.core_logs.proofs.NewTests.{part_is}
use Rattle.core_logs.proofs.Walked.{any_found}
use Rattle.core_logs.proofs.checking.has_part.Goals as goal

pub returns : goal.returns
returns c =
    part_is _ c.args.steps.now c.args.clause.now
    (any_found _ _ _ (λ (step : LogStep). IsPartOf step c.args.clause.now) c.args.steps.now c.any.ensures.ran
    (YieldsList-from_slice c.args.steps.now cc) (λ x q k. search rules) (λ x q k. search rules))
