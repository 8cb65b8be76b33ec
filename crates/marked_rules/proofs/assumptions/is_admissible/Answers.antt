use Rattle.marked_rules.proofs.TestLemmas.{admissible_by}
use Rattle.marked_rules.proofs.assumptions.is_admissible.Goals as goal

pub returns : goal.returns
returns c = admissible_by c.args.plain.now c.args.uses.now c.requires.of c.args.set.now c.grow.new.self.atoms.items
    c.keep_spared.new.kept.items c.is_conflict_free.new.closing c.close.new.closing _
    (c.in_ok-apart.ensures.free.0 c.if-not-apart.false)
    (rw c.as_slice.ensures.value at c.in_ok-grow.ensures)
    (c.in_ok-apart.ensures.derived c.if-not-apart.false)
    (rw c.as_slice-atoms.ensures.value at c.in_ok-keep_spared.ensures)
    (rw c.as_slice-2.ensures.value at c.in_ok-close.ensures)
    (rw c.as_slice-3.ensures.value at c.are_quiet-defended.ensures)
