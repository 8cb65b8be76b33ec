use Rattle.std.proofs.Common.{ℕ, rules}
use Rattle.std.proofs.lemmas.Iterator.{cases_from_all, YieldsList-from_slice}
use Rattle.aba_notions.specs.Closing.{IsMarked}
use Rattle.marked_rules.specs.Search.{derived_in}
use Rattle.marked_rules.proofs.TestLemmas.{quiet_walk}
use Rattle.marked_rules.proofs.assumptions.is_quiet.Goals as goal

pub returns : goal.returns
returns c =
    let P : ℕ × ℕ → Type 0 = λ p. IsMarked (derived_in c.args.uses.now c.args.closing.now) p.1 → ⊥ in
    quiet_walk c.args.uses.now c.args.closing.now c.args.assumption c.of.result.now _ c.of.ensures.value
    (cases_from_all _ _ _ P (λ x. P x → ⊥) c.all.ensures.ran (YieldsList-from_slice c.of.result.now cc)
    (λ x q k. search rules) (λ x q k. search rules))
