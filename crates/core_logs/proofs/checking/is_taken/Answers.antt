use Rattle.oracle_face.specs.Logs.{clauses_of}
use Rattle.core_logs.proofs.HintTests.{taken_by_all}
use Rattle.core_logs.proofs.checking.is_taken.Goals as goal

pub returns : goal.returns
returns c =
    taken_by_all (clauses_of c.args.steps.now) c.args.clause.now c.args.hints.now c.in_ok-used.used c.is_count.result
    c.in_ok-used.ensures c.is_count.ensures
