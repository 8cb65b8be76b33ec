use Rattle.std.proofs.Common.{◌≡◌, ◌+◌, ◌<◌, subst, length}
use Rattle.oracle_face.specs.Logs.{hints_of, step_at}
use Rattle.oracle_face.specs.StepSources.{imported_of, source_of}
use Rattle.entry_taking.specs.Names.{IsNoted}
use Rattle.entry_taking.proofs.Naming.{named_more}
use Rattle.entry_taking.proofs.names.StepNames.look.Goals as goal

pub loop-self-preserved : goal.loop-self-preserved
loop-self-preserved c =
    let steps = c.args.solver.now.log.steps in
    let seen = c.loop-self.self.seen in
    let lt : seen < length steps = subst (λ n. seen < n) c.len.ensures.len c.loop-self-test.true in
    let is : c.new-step.result ≡ seen + 1 = c.new-step.ensures in
    let origin = c.in_ok-origin.origin in
    named_more origin c.loop-self.self c.note.new.self steps (hints_of (step_at steps (seen + 1)).source) lt
    c.loop-self.invariant (subst (λ n. IsNoted origin n c.loop-self.self c.note.new.self) is c.in_ok-note.ensures.noted)
    (subst (λ n. (step_at steps n).source ≡ source_of origin (hints_of (step_at steps n).source)) is
    c.in_ok-origin.ensures.source)
    (subst (λ n. (step_at steps n).imported ≡ imported_of origin) is c.in_ok-origin.ensures.imported)
