use Rattle.std.proofs.Common.{rules}
use Rattle.std.proofs.lemmas.Iterator.{YieldsList-from_slice}
use Rattle.oracle_face.specs.Logs.{LogStep}
use Rattle.core_logs.specs.Tests.{IsFromEntry}
use Rattle.core_logs.proofs.SourceTests.{entry_there}
use Rattle.core_logs.proofs.Walked.{any_found}
use Rattle.core_logs.proofs.sources.has_entry.Goals as goal

pub returns : goal.returns
returns c =
    entry_there _ c.args.steps.now c.args.name
    (any_found _ _ _ (λ (x : LogStep). IsFromEntry x c.args.name) c.args.steps.now c.any.ensures.ran
    (YieldsList-from_slice c.args.steps.now cc) (λ x q k. search rules) (λ x q k. search rules))
