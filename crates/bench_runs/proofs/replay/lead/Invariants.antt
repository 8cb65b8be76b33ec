use Rattle.std.proofs.Common.{◌≡◌}
use Rattle.std.specs.Prelude.{take}
use Rattle.semantics.specs.Frameworks.{Framework}
use Rattle.edit_rules.specs.Kinds.{framework_of}
use Rattle.edit_history.specs.Entries.{entries_in, framework_after}
use Rattle.bench_runs.proofs.replay.lead.Given as goal

-- the framework is the one behind the entries so far
abbrev pub invariant-loop-index : goal.invariant-loop-index
invariant-loop-index l = (f : Framework)
    → framework_of l.initial.framework ≡ framework_after f (take l.from (entries_in l.history))
    → framework_of l.framework ≡ framework_after f (take l.index (entries_in l.history))
