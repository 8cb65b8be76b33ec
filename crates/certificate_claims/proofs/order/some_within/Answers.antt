use Rattle.std.proofs.Common.{ℕ, List, rules}
use Rattle.std.proofs.lemmas.Iterator.{cases_from_any, YieldsList-from_slice}
use Rattle.certificate_claims.specs.Orders.{HasLarger}
use Rattle.certificate_claims.proofs.OrderLemmas.{some_part}
use Rattle.certificate_claims.proofs.order.some_within.Goals as goal

pub returns : goal.returns
returns c =
    let P : List ℕ → Type 0 = λ s. HasLarger c.args.sets.now s in
    some_part c.args.sets.now c.any.result
    (cases_from_any _ _ _ P (λ s. P s → ⊥) c.any.ensures.ran (YieldsList-from_slice c.args.sets.now cc)
    (λ x q k. search rules) (λ x q k. search rules))
