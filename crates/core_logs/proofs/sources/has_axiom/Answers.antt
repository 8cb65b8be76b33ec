use Rattle.std.proofs.Common.{rules}
use Rattle.std.proofs.lemmas.Iterator.{YieldsList-from_slice}
use Rattle.oracle_face.specs.Logs.{LogStep}
use Rattle.core_logs.specs.Tests.{IsOfAxiom}
use Rattle.core_logs.proofs.SourceTests.{axiom_there}
use Rattle.core_logs.proofs.Walked.{any_found}
use Rattle.core_logs.proofs.sources.has_axiom.Goals as goal

pub returns : goal.returns
returns c =
    axiom_there _ c.args.steps.now c.args.name.now
    (any_found _ _ _ (λ (x : LogStep). IsOfAxiom x c.args.name.now) c.args.steps.now c.any.ensures.ran
    (YieldsList-from_slice c.args.steps.now cc) (λ x q k. search rules) (λ x q k. search rules))
