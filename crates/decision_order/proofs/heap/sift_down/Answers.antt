use Rattle.std.proofs.Common.{length, arith, ◌∙◌}
use Rattle.decision_order.proofs.heap.sift_down.Goals as goal

pub down-preserved : goal.down-preserved
down-preserved c = record {
  vars = c.put.ensures.vars (length c.args.activities.now) (omega arith) c.down.invariant.vars;
  heap_long = c.put.ensures.heap_long ∙ c.down.invariant.heap_long;
  indices_long = c.put.ensures.indices_long ∙ c.down.invariant.indices_long;
  at = omega arith;
}

pub returns-clause-vars : goal.returns-clause-vars
returns-clause-vars c = c.put-2.ensures.vars (length c.args.activities.now) (omega arith) c.down.invariant.vars
