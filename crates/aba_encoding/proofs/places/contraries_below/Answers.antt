use Rattle.std.proofs.Common.{ℕ, length, ltb, rules, arith, ap, subst, sym, true, false, ◌≡◌}
use Rattle.std.specs.List.Sorted.{IsPartitionPoint, IsPartitionedBy}
use Rattle.std.proofs.lemmas.List.Sorted.{IsPartitionPoint-from_clause}
use Rattle.aba_encoding.proofs.ContraryPlaces.{contrary_cut, how_many, parted}
use Rattle.aba_encoding.proofs.places.contraries_below.Goals as goal

pub returns-clause-bound : goal.returns-clause-bound
returns-clause-bound c = omega (
  arith,
  c.partition_point.ensures.bound,
  ap length c.contraries_of.ensures.value,
  how_many c.args.plain.now c.contraries_of.ensures.form c.args.atom,
)

pub returns-clause-cut : goal.returns-clause-cut
returns-clause-cut c =
    let f = c.args.plain.now in
    let form = c.contraries_of.ensures.form in
    let n = c.args.contrary in
    let point = IsPartitionPoint-from_clause (λ (p : ℕ × ℕ). ltb p.1 n) _ _ c.partition_point.ensures.partitioned
    (subst (IsPartitionedBy (λ (p : ℕ × ℕ). ltb p.1 n)) (sym c.contraries_of.ensures.value)
    (parted f form c.args.atom n)) (λ a r q k. search rules) in
    contrary_cut f form c.args.atom n c.partition_point.result
    (subst (λ ps. IsPartitionPoint (λ (p : ℕ × ℕ). ltb p.1 n ≡ true) (λ (p : ℕ × ℕ). ltb p.1 n ≡ false) ps
    c.partition_point.result) c.contraries_of.ensures.value point)
