use Rattle.marked_sets.proofs.MarkLemmas.{none_stamped}
use Rattle.marked_sets.proofs.marks.Marks.restart.Goals as goal

pub returns : goal.returns
returns c = rw (c.in_ok-stamps.ensures.items_if_clones_equal (λ y e. e)) (none_stamped c.args.bound)
