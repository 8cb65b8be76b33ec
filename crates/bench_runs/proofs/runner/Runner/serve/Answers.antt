use Rattle.std.proofs.Common.{sym, subst, map, take, ◌∙◌}
use Rattle.script_text.specs.declared.script.ScriptLine.{ScriptLine}
use Rattle.bench_runs.specs.Running.{HasServed}
use Rattle.bench_runs.proofs.SortLemmas.{own_more, own_session, served_own}
use Rattle.bench_runs.proofs.runner.Runner.serve.Goals as goal

pub take_line-requires-clause-own : goal.take_line-requires-clause-own
take_line-requires-clause-own g c =
    own_session (λ line. line.now) c.own-own.result.now c.args.lines.now c.number.result c.loop-line.line-index
    c.line-item.result c.own-own.ensures c.loop-line-test.true c.line-item.is
    ∙ (c.number.ensures ∙ sym c.loop-line.invariant.1)

pub loop-line-preserved : goal.loop-line-preserved
loop-line-preserved g c = (
  subst (λ lines. HasServed c.args.hub.now c.args.pool.now c.args.budget lines c.take_line.new.self)
      (sym (own_more (λ line. line.now) c.own-own.result.now c.loop-line.line-index c.line-item.result
      c.loop-line-test.true c.line-item.is))
      (c.in_ok-take_line.ensures.served
      (map (λ line. line.now) (take c.loop-line.line-index c.own-own.result.now)) c.loop-line.invariant.0),
  c.in_ok-take_line.ensures.number ∙ c.loop-line.invariant.1,
)

pub returns-clause-served : goal.returns-clause-served
returns-clause-served g c =
    served_own (λ line. line.now) c.own-own.result.now c.args.lines.now c.number.result c.loop-line.line-index
    c.args.hub.now c.args.pool.now c.args.budget c.loop-line.self c.own-own.ensures c.loop-line-test.false
    (c.loop-line.invariant.1 ∙ sym c.number.ensures) c.loop-line.invariant.0
