use Rattle.std.proofs.Common.{◌<◌, length, arith, subst, ◌∙◌}
use Rattle.std.proofs.lemmas.List.{length-take-le, take_all}
use Rattle.lrat_writing.specs.Writers.{IsWriterOf}
use Rattle.lrat_writing.proofs.WriterLemmas.{step_written}
use Rattle.lrat_writing.proofs.write.push_log.Goals as goal

pub push-requires-clause-few : goal.push-requires-clause-few
push-requires-clause-few c =
    let test = c.loop-index-test.true in
    let long = c.len-index-end.ensures.steps in
    let within = c.len-index-end.ensures.form.within in
    let small = c.len-index-end.ensures.form.small in
    let all = c.loop-index.invariant.steps.all in
    let first = length-take-le c.loop-index.index c.args.log.now.steps (omega (arith, test, long)) in
    omega (arith, test, long, within, small, all, first)

pub loop-index-preserved : goal.loop-index-preserved
loop-index-preserved c =
    let steps = c.args.log.now.steps in
    let long = c.len-index-end.ensures.steps in
    let test = c.loop-index-test.true in
    let lt : c.loop-index.index < length steps = omega (arith, long, test) in
    record {
      steps = step_written steps c.loop-index.index c.new-step.result _ _ _ _ lt c.new-step.ensures c.kind.ensures.kind
          c.clause.ensures.clause c.hints.ensures.hints (c.in_ok-push.ensures.step _ c.loop-index.invariant.steps);
      count = c.in_ok-push.ensures.count ∙ c.loop-index.invariant.count;
    }

pub returns-clause-steps : goal.returns-clause-steps
returns-clause-steps c =
    let long = c.len-index-end.ensures.steps in
    let test = c.loop-index-test.false in
    subst (λ ss. IsWriterOf ss c.loop-index.writer)
    (take_all c.loop-index.index c.args.log.now.steps (omega (arith, long, test)))
    c.loop-index.invariant.steps
