use Rattle.bench_runs.proofs.DrawLemmas.{IsDrawing}
use Rattle.bench_runs.proofs.framework.draw_attacks.Given as goal

abbrev pub invariant-loop-argument : goal.invariant-loop-argument
invariant-loop-argument l = IsDrawing l.n l.fn.seed l.argument l.state l.attacks.items
