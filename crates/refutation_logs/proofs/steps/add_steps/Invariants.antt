use Rattle.std.proofs.Common.{◌≡◌, take}
use Rattle.edit_rules.specs.Kinds.{framework_of}
use Rattle.answer_claims.specs.SideClauses.{sides_of}
use Rattle.refutation_logs.specs.Tables.{IsLogged}
use Rattle.refutation_logs.proofs.steps.add_steps.Given as goal

abbrev pub invariant-loop-index : goal.invariant-loop-index
invariant-loop-index l = record {
  logged : IsLogged (sides_of (framework_of l.framework) l.kind l.sets) (take l.index l.steps) l.table l.writer;
  count : l.writer.count ≡ l.fn.writer.count;
}
