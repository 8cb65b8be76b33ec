use Rattle.std.proofs.Common.{◌≡◌, take}
use Rattle.lrat_text.specs.Spelling.{spelled_clauses}
use Rattle.lrat_text.proofs.spelled.bench_of.Given as goal

abbrev pub invariant-loop-index : goal.invariant-loop-index
invariant-loop-index l = l.bench ≡ spelled_clauses (take l.index l.clauses)
