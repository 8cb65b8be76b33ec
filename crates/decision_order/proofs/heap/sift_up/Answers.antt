use Rattle.std.proofs.Common.{length, arith, ◌∙◌}
use Rattle.decision_order.proofs.heap.sift_up.Goals as goal

pub up-preserved : goal.up-preserved
up-preserved c = record {
  vars = c.put.ensures.vars (length c.args.activities.now) (omega arith) c.up.invariant.vars;
  heap_long = c.put.ensures.heap_long ∙ c.up.invariant.heap_long;
  indices_long = c.put.ensures.indices_long ∙ c.up.invariant.indices_long;
  at = omega arith;
}

pub returns-clause-vars : goal.returns-clause-vars
returns-clause-vars c = c.put-2.ensures.vars (length c.args.activities.now) (omega arith) c.up.invariant.vars
