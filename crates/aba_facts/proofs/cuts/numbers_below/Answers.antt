use Rattle.std.proofs.Common.{ℕ, ltb, rules, subst, sym}
use Rattle.std.specs.List.Sorted.{IsStrictlyIncreasing}
use Rattle.std.proofs.lemmas.List.Sorted.{IsPartitionPoint-from_clause}
use Rattle.aba_facts.specs.Cuts.{IsCut}
use Rattle.aba_facts.proofs.CutLemmas.{cut_made, map_same, parted}
use Rattle.aba_facts.proofs.cuts.numbers_below.Goals as goal

pub returns : goal.returns
returns c =
    let numbers = c.args.numbers.now in
    let cut = IsPartitionPoint-from_clause (λ (x : ℕ). ltb x c.args.bound) _ _ c.partition_point.ensures.partitioned
    (parted (λ (x : ℕ). x) numbers c.args.bound (subst IsStrictlyIncreasing (sym (map_same numbers)) c.requires))
    (λ a r q k. search rules) in
    subst (λ xs. IsCut c.args.bound xs c.partition_point.result) (map_same numbers)
    (cut_made (λ (x : ℕ). x) numbers c.args.bound _ c.partition_point.ensures.bound cut 0)
