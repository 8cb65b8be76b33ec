use Rattle.std.proofs.Common.{arith}
use Rattle.af_encoding.proofs.WalkLemmas.{attacker_high}
use Rattle.af_encoding.proofs.NeededLemmas.{attack_at, walk_begins, walk_goes, walk_ends}
use Rattle.af_encoding.proofs.needed_axioms.push_axioms.Goals as goal

pub loop-attack-init : goal.loop-attack-init
loop-attack-init c = walk_begins c.args.plain.now c.requires.form c.args.argument c.requires.live _
    c.attackers_of-attack-items.ensures _ _ c.in_ok-push_all.ensures

pub overflow_add-position : goal.overflow_add-position
overflow_add-position c =
    let at = attack_at c.args.plain.now c.args.argument c.attackers_of-attack-items.result.now
    c.attackers_of-attack-items.ensures c.loop-attack.attack-index (0, 0) c.loop-attack-test.true in
    let high = attacker_high c.args.plain.now c.requires.form _ _ at.1 in
    omega (arith, high)

pub loop-attack-preserved : goal.loop-attack-preserved
loop-attack-preserved c = walk_goes c.args.plain.now c.requires.form c.args.argument _
    c.attackers_of-attack-items.ensures c.loop-attack.attack-index c.loop-attack.position (0, 0) _ _ _
    c.loop-attack.invariant c.loop-attack-test.true c.in_ok-push_all-2.ensures

pub returns : goal.returns
returns c = walk_ends c.args.plain.now c.requires.form c.args.argument c.requires.live _
    c.attackers_of-attack-items.ensures c.loop-attack.attack-index c.loop-attack.position _ _ _
    c.loop-attack.invariant c.loop-attack-test.false c.in_ok-push_all-3.ensures
