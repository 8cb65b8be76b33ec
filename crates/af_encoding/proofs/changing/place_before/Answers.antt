use Rattle.std.proofs.Common.{ℕ, ltb, rules, arith, ◌-◌, ◌<◌, length}
use Rattle.std.proofs.lemmas.List.Sorted.{IsPartitionPoint-from_clause}
use Rattle.af_encoding.proofs.NeededLemmas.{attack_at}
use Rattle.af_encoding.proofs.PlaceLemmas.{place_first, place_next}
use Rattle.af_encoding.proofs.WalkLemmas.{attacker_high}
use Rattle.af_encoding.proofs.changing.place_before.Goals as goal
use Rattle.af_axioms.proofs.Gaps.{attackers_parted}

pub returns-then-before-eq0 : goal.returns-then-before-eq0
returns-then-before-eq0 c =
    let lists = c.attackers_of-attackers.ensures in
    let cut = IsPartitionPoint-from_clause (λ (p : ℕ × ℕ). ltb p.1 c.args.number) _ _
    c.partition_point-before.ensures.partitioned (attackers_parted _ _ _ _ lists) (λ a r q k. search rules) in
    place_first _ _ _ _ _ lists cut c.if-before-eq0.true c.requires.low

pub overflow_add-result : goal.overflow_add-result
overflow_add-result c =
    let bound = c.partition_point-before.ensures.bound in
    let some = c.if-before-eq0.false in
    let within : c.partition_point-before.result - 1 < length c.attackers_of-attackers.result.now = omega arith in
    let at = attack_at _ _ _ c.attackers_of-attackers.ensures (c.partition_point-before.result - 1) (0, 0) within in
    let high = attacker_high c.args.plain.now c.requires.form _ _ at.1 in
    omega (arith, high)

pub returns : goal.returns
returns c =
    let lists = c.attackers_of-attackers.ensures in
    let cut = IsPartitionPoint-from_clause (λ (p : ℕ × ℕ). ltb p.1 c.args.number) _ _
    c.partition_point-before.ensures.partitioned (attackers_parted _ _ _ _ lists) (λ a r q k. search rules) in
    place_next _ _ _ _ _ lists cut c.if-before-eq0.false c.partition_point-before.ensures.bound
