use Rattle.std.proofs.Common.{ℕ, ltb, rules, arith}
use Rattle.std.proofs.lemmas.List.Sorted.{IsPartitionPoint-from_clause}
use Rattle.aba_encoding.proofs.HeadLemmas.{cut, long, parted_numbers, parted_pairs}
use Rattle.aba_encoding.proofs.places.rules_below.Goals as goal

pub returns-clause-bound : goal.returns-clause-bound
returns-clause-bound c =
    let headed = c.headed_by-headed.ensures in
    omega (
      arith,
      c.partition_point.ensures.bound,
      long c.args.plain.now c.rule_numbers.ensures.form c.args.atom c.rule_numbers.result.now
          c.headed_by-headed.result.now c.rule_numbers.ensures.value headed.rise headed.rules,
    )

pub returns-clause-cut : goal.returns-clause-cut
returns-clause-cut c =
    let f = c.args.plain.now in
    let form = c.rule_numbers.ensures.form in
    let numbers = c.rule_numbers.result.now in
    let pairs = c.headed_by-headed.result.now in
    let headed = c.headed_by-headed.ensures in
    let index = c.partition_point-index.result in
    let of_numbers = IsPartitionPoint-from_clause (λ (m : ℕ). ltb m c.args.number) _ _
    c.partition_point-index.ensures.partitioned
    (parted_numbers f form c.args.atom numbers pairs c.rule_numbers.ensures.value headed.rise headed.rules
    c.args.number) (λ a r q k. search rules) in
    let of_pairs = IsPartitionPoint-from_clause (λ (p : ℕ × ℕ). ltb p.1 index) _ _
    c.partition_point.ensures.partitioned
    (parted_pairs f form c.args.atom numbers pairs c.rule_numbers.ensures.value headed.rise headed.rules index)
    (λ a r q k. search rules) in
    cut f form c.args.atom numbers pairs c.rule_numbers.ensures.value headed.rise headed.rules c.args.number index
    c.partition_point.result of_numbers of_pairs
