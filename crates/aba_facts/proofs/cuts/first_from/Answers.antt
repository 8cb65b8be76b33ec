use Rattle.std.proofs.Common.{ℕ, arith, map, sym}
use Rattle.std.proofs.lemmas.List.{get_or-map, length-map}
use Rattle.aba_facts.proofs.CutLemmas.{all_below, first_made}
use Rattle.aba_facts.proofs.cuts.first_from.Goals as goal

pub returns-then-index-pairs-clause-none : goal.returns-then-index-pairs-clause-none
returns-then-index-pairs-clause-none c =
    let pairs = c.args.pairs.now in
    let past = c.if-index-pairs.true in
    all_below c.args.begin (map (λ (p : ℕ × ℕ). p.1) pairs) c.seconds_below-index.result c.seconds_below-index.ensures
    (omega (arith, length-map pairs (λ (p : ℕ × ℕ). p.1), past))

pub returns-clause-some : goal.returns-clause-some
returns-clause-some c =
    let pairs = c.args.pairs.now in
    let n = c.seconds_below-index.result in
    let within = c.if-index-pairs.false in
    let long = length-map pairs (λ (p : ℕ × ℕ). p.1) in
    first_made c.args.begin (map (λ (p : ℕ × ℕ). p.1) pairs) n _ c.requires c.seconds_below-index.ensures
    (omega arith) (sym (get_or-map (λ (p : ℕ × ℕ). p.1) pairs n (0, 0) 0 (omega arith)))
