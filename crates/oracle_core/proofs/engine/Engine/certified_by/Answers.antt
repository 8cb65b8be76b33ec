use Rattle.std.proofs.Common.{ap, subst, sym}
use Rattle.edit_rules.specs.Kinds.{framework_of}
use Rattle.session_log.specs.Ends.{IsShownBy as IsShownByLog}
use Rattle.oracle_core.specs.Answers.{IsShownBy}
use Rattle.oracle_core.specs.Engines.{EngineState}
use Rattle.oracle_core.proofs.Writing.{evidence_by_log, shown_by}
use Rattle.oracle_core.proofs.engine.Engine.certified_by.Goals as goal

pub returns-clause-shown : goal.returns-clause-shown
returns-clause-shown c =
    subst (λ f. IsShownBy f c.args.query.now c.args.answer c.in_ok-certificate.certificate)
    (ap (λ (e : EngineState). e.framework) c.self.view_is)
    (shown_by (framework_of c.self.inside.parts.framework) c.args.query.now c.args.answer
    c.in_ok-certificate.certificate c.self.invariant.numbered c.in_ok-certificate.ensures.accepted
    c.in_ok-certificate.ensures.writable)

pub returns-clause-by_log : goal.returns-clause-by_log
returns-clause-by_log c =
    let f = c.args.self.now.framework in
    let log = c.args.self.now.log in
    subst (λ sets. IsShownByLog f c.args.query.now c.args.answer sets log)
    (sym c.in_ok-certificate.ensures.sets) (evidence_by_log f c.args.query.now log
    (record { answer = c.args.answer; sets = c.args.sets; steps = c.args.steps }) c.requires)
