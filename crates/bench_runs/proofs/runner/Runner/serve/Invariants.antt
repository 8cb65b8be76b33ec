use Rattle.std.proofs.Common.{◌≡◌, map, take}
use Rattle.bench_runs.specs.Running.{HasServed}
use Rattle.bench_runs.proofs.runner.Runner.serve.Given as goal

abbrev pub invariant-loop-line : goal.invariant-loop-line
invariant-loop-line g l =
    HasServed l.hub l.pool l.budget (map (λ line. line.now) (take l.line-index l.own)) l.self
    × (l.self.session.number ≡ l.fn.self.session.number)
