use Rattle.std.proofs.Common.{◌≡◌, ◌≤◌, length, take}
use Rattle.lrat_writing.specs.Walks.{given_clauses}
use Rattle.lrat_writing.proofs.clauses.given_count.Given as goal

abbrev pub invariant-loop-index : goal.invariant-loop-index
invariant-loop-index l = record {
  counted : l.count ≡ length (given_clauses (take l.index l.log.steps));
  few : l.count ≤ l.index;
}
