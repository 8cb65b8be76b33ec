use Rattle.marked_sets.proofs.UnattackedLemmas.{reached_by}
use Rattle.marked_sets.proofs.arguments.holds_reached.Goals as goal

pub returns : goal.returns
returns c = reached_by c.args.plain.now c.args.set.now _ _ _ c.in_ok-range.ensures c.in_ok-reached.ensures
    (rw c.as_slice.ensures.value at c.holds_defended-holds.ensures)
