use Rattle.set_tests.proofs.AttackLemmas.{attacked_added}
use Rattle.set_tests.proofs.attacks.add_assumptions.Goals as goal

pub returns : goal.returns
returns c = attacked_added c.args.plain.now c.args.set.now _ _ _ c.in_ok-attacked.ensures
    (rw c.as_slice.ensures.value at c.in_ok-extend_from_slice.ensures.items)
