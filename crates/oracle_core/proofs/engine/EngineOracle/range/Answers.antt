use Rattle.std.proofs.Common.{ap, subst, IfOk}
use Rattle.lists.specs.Members.{IsSetOf}
use Rattle.oracle_face.specs.Kinds.{IsRanged}
use Rattle.oracle_core.specs.Engines.{EngineState}
use Rattle.oracle_core.proofs.engine.EngineOracle.range.Goals as goal

pub returns : goal.returns
returns c =
    subst (λ f. IfOk c.range_of.result (IsSetOf (IsRanged f c.args.set.now)))
    (ap (λ (e : EngineState). e.framework) c.self.view_is) c.range_of.ensures
