use Rattle.set_lists.proofs.num_set.NumSet.minus.Goals as goal

pub returns : goal.returns
returns c = rw (← c.self.view_is, ← c.other.view_is, ← c.as_slice.ensures.value, ← c.as_slice-2.ensures.value)
    c.in_ok-numbers.ensures
