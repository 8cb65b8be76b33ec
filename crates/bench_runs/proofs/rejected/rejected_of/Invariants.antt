use Rattle.std.specs.Prelude.{drop, map}
use Rattle.edit_rules.specs.Kinds.{framework_of}
use Rattle.bench_runs.specs.Checking.{IsCheckedTo}
use Rattle.bench_runs.proofs.rejected.rejected_of.Given as goal

abbrev pub invariant-loop-line : goal.invariant-loop-line
invariant-loop-line l = IsCheckedTo (framework_of l.opening) l.history (map (λ line. line.now) l.lines) l.replies
    (drop l.line-index (map (λ line. line.now) l.lines)) (framework_of l.checking.framework) l.checking.front
    l.checking.checked l.checking.rejected
