use Rattle.edit_rules.specs.Kinds.{framework_of}
use Rattle.edit_history.specs.Entries.{entries_in}
use Rattle.bench_runs.proofs.CheckLemmas.{IsTotalledTo}
use Rattle.bench_runs.proofs.rejected.rejected_in.Given as goal

abbrev pub invariant-loop-replies : goal.invariant-loop-replies
invariant-loop-replies l = IsTotalledTo (framework_of l.opening) (entries_in l.history) l.lines l.sessions
    l.replies-index l.session l.total
