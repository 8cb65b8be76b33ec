use Rattle.std.proofs.Common.{◌≡◌, ◌<◌, length}
use Rattle.decision_order.specs.Orders.{AreVars}
use Rattle.decision_order.proofs.heap.sift_up.Given as goal

abbrev pub invariant-up : goal.invariant-up
invariant-up l = record {
  vars : AreVars (length l.activities) l.heap.items;
  heap_long : length l.heap.items ≡ length l.initial.heap.items;
  indices_long : length l.indices.items ≡ length l.initial.indices.items;
  at : l.at < length l.heap.items;
}

abbrev pub decreases-up : goal.decreases-up
decreases-up l = l.at
