use Rattle.std.proofs.Common.{ap, subst, IfOk}
use Rattle.std.specs.Prelude.{◌↔◌, IsTrue}
use Rattle.certificate_claims.specs.Rights.{Accepts}
use Rattle.oracle_core.specs.Engines.{EngineState}
use Rattle.oracle_core.proofs.engine.EngineOracle.accepts.Goals as goal

pub returns : goal.returns
returns c =
    subst (λ f. IfOk c.accepts.result (λ accepts. IsTrue accepts ↔ Accepts f c.args.set.now c.args.goal))
    (ap (λ (e : EngineState). e.framework) c.self.view_is) c.accepts.ensures
