use Rattle.std.proofs.Common.{arith}
use Rattle.af_encoding.proofs.GainedLemmas.{attack_listed, on_both}
use Rattle.af_encoding.proofs.changing.push_attack.Goals as goal

pub overflow_add-b : goal.overflow_add-b
overflow_add-b c = let high = c.requires.argument.high in omega (arith, high)

pub returns : goal.returns
returns c =
    on_both _ _ _ _ _ _ c.push_step.result
    (attack_listed c.args.plain.now c.args.target c.args.attacker c.place_before-start.result
    c.place_before-start.ensures)
    c.in_ok-push_all.ensures c.push_step.ensures
