use Rattle.bench_runs.proofs.DrawLemmas.{IsScripting}
use Rattle.bench_runs.proofs.script.script.Given as goal

abbrev pub invariant-loop-argument : goal.invariant-loop-argument
invariant-loop-argument l = IsScripting l.n l.fn.seed l.argument l.state l.lines
