use Rattle.std.proofs.Common.{ℕ, rules}
use Rattle.std.specs.Prelude.{Contains}
use Rattle.std.proofs.lemmas.Iterator.{cases_from_all, YieldsList-from_slice}
use Rattle.lists.proofs.Walks.{all_members}
use Rattle.marked_rules.specs.Tests.{IsQuiet}
use Rattle.marked_rules.proofs.assumptions.are_covered.Goals as goal

pub returns : goal.returns
returns c =
    let P : ℕ → Type 0 = λ a. IsQuiet c.args.uses.now c.args.closing.now a → Contains c.args.set.now a in
    all_members P c.args.assumptions.now _
    (cases_from_all _ _ _ P (λ x. P x → ⊥) c.all.ensures.ran (YieldsList-from_slice c.args.assumptions.now cc)
    (λ x q k. search rules) (λ x q k. search rules))
