use Rattle.marked_rules.proofs.TestLemmas.{attacked_is}
use Rattle.marked_rules.proofs.assumptions.attacked_by.Goals as goal

pub returns : goal.returns
returns c = attacked_is c.args.plain.now c.args.uses.now c.requires.of c.args.set.now c.keep_spared.new.kept.items
    c.in_ok-rest.rest c.in_ok-attacked.attacked c.close.new.closing
    (rw c.as_slice.ensures.value at c.in_ok-close.ensures)
    (rw (c.as_slice-numbers.ensures.value, c.assumptions-assumptions.ensures.value) at c.in_ok-keep_spared.ensures)
    (rw c.deref.ensures.value at c.in_ok-rest.ensures)
    (rw c.assumptions-assumptions.ensures.value at c.in_ok-attacked.ensures)
