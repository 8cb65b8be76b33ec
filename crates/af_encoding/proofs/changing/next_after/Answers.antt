use Rattle.std.proofs.Common.{ℕ, leb, rules}
use Rattle.std.proofs.lemmas.List.Sorted.{IsPartitionPoint-from_clause}
use Rattle.af_encoding.proofs.PlaceLemmas.{next_there, none_there, parted_until}
use Rattle.af_encoding.proofs.changing.next_after.Goals as goal

pub returns-in-Some-clause-some : goal.returns-in-Some-clause-some
returns-in-Some-clause-some c =
    let lists = c.attackers_of-attackers.ensures in
    let cut = IsPartitionPoint-from_clause (λ (p : ℕ × ℕ). leb p.1 c.args.number) _ _
    c.partition_point-first.ensures.partitioned (parted_until _ _ _ _ lists) (λ a r q k. search rules) in
    let lookup = c.in-Some.ensures.lookup in
    next_there _ _ _ _ _ _ lists cut lookup.3.0 lookup.1

pub returns-in-None-clause-none : goal.returns-in-None-clause-none
returns-in-None-clause-none c =
    let lists = c.attackers_of-attackers.ensures in
    let cut = IsPartitionPoint-from_clause (λ (p : ℕ × ℕ). leb p.1 c.args.number) _ _
    c.partition_point-first.ensures.partitioned (parted_until _ _ _ _ lists) (λ a r q k. search rules) in
    none_there _ _ _ _ _ lists cut c.in-None.ensures.lookup.3
