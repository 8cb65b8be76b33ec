use Rattle.std.proofs.Common.{ℕ, ltb, rules}
use Rattle.std.proofs.lemmas.List.Sorted.{IsPartitionPoint-from_clause}
use Rattle.af_axioms.proofs.Gaps.{attackers_parted, none_past_all, attacker_at}
use Rattle.af_axioms.proofs.fact.has_attacker.Goals as goal

pub returns-in-Some : goal.returns-in-Some
returns-in-Some c =
    let lists = c.attackers_of-attackers.ensures in
    let cut = IsPartitionPoint-from_clause (λ (p : ℕ × ℕ). ltb p.1 c.args.attacker) _ _
    c.partition_point-first.ensures.partitioned (attackers_parted _ _ _ _ lists) (λ a r q k. search rules) in
    let lookup = c.in-Some.ensures.lookup in
    attacker_at _ _ _ _ _ _ lists cut lookup.3.0 lookup.1

pub returns-in-None : goal.returns-in-None
returns-in-None c =
    let lists = c.attackers_of-attackers.ensures in
    let cut = IsPartitionPoint-from_clause (λ (p : ℕ × ℕ). ltb p.1 c.args.attacker) _ _
    c.partition_point-first.ensures.partitioned (attackers_parted _ _ _ _ lists) (λ a r q k. search rules) in
    (λ never. absurd (search rules), λ at. absurd (none_past_all _ _ _ _ _ lists cut c.in-None.ensures.lookup.3 at))
