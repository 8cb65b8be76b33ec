use Rattle.marked_rules.proofs.TestLemmas.{stable_by}
use Rattle.marked_rules.proofs.assumptions.is_stable.Goals as goal

pub returns : goal.returns
returns c = stable_by c.args.plain.now c.args.uses.now c.requires.of c.args.set.now c.is_conflict_free.new.closing _
    (c.in_ok-apart.ensures.free.0 c.if-not-apart.false) (c.in_ok-apart.ensures.derived c.if-not-apart.false)
    (rw (c.as_slice-assumptions.ensures.value, c.assumptions.ensures.value) at c.are_covered-covered.ensures)
