use Rattle.std.proofs.Common.{◌∙◌}
use Rattle.marked_rules.proofs.TestLemmas.{complete_by}
use Rattle.marked_rules.proofs.assumptions.is_complete.Goals as goal

pub returns : goal.returns
returns c = complete_by c.args.plain.now c.args.uses.now c.requires.of c.args.set.now
    c.keep_spared.new.kept.items c.close.new.closing c.close-2.new.closing _
    (c.in_ok-admissible.ensures.0 c.if-not-admissible.false)
    (rw c.as_slice.ensures.value at c.in_ok-close.ensures)
    (rw (c.as_slice-assumptions.ensures.value, c.assumptions.ensures.value) at c.in_ok-keep_spared.ensures)
    (rw c.as_slice-2.ensures.value at c.in_ok-close-2.ensures)
    (rw (c.as_slice-assumptions.ensures.value, c.assumptions.ensures.value) at c.are_covered-complete.ensures)
