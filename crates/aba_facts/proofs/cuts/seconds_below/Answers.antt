use Rattle.std.proofs.Common.{ℕ, ltb, rules}
use Rattle.std.proofs.lemmas.List.Sorted.{IsPartitionPoint-from_clause}
use Rattle.aba_facts.proofs.CutLemmas.{cut_made, parted}
use Rattle.aba_facts.proofs.cuts.seconds_below.Goals as goal

pub returns : goal.returns
returns c =
    let cut = IsPartitionPoint-from_clause (λ (p : ℕ × ℕ). ltb p.1 c.args.bound) _ _
    c.partition_point.ensures.partitioned (parted (λ (p : ℕ × ℕ). p.1) c.args.pairs.now c.args.bound c.requires)
    (λ a r q k. search rules) in
    cut_made (λ (p : ℕ × ℕ). p.1) c.args.pairs.now c.args.bound _ c.partition_point.ensures.bound cut (0, 0)
