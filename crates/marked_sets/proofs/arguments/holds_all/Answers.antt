use Rattle.std.proofs.Common.{ℕ, rules}
use Rattle.std.specs.Prelude.{Contains}
use Rattle.std.proofs.lemmas.Iterator.{cases_from_all, YieldsList-from_slice}
use Rattle.dung_notions.proofs.NotionLemmas.{all_members}
use Rattle.marked_sets.proofs.arguments.holds_all.Goals as goal

pub returns : goal.returns
returns c =
    let P : ℕ → Type 0 = λ x. Contains c.args.set.now x in
    all_members P c.args.numbers.now _
    (cases_from_all _ _ _ P (λ x. P x → ⊥) c.all.ensures.ran (YieldsList-from_slice c.args.numbers.now cc)
    (λ x q k. search rules) (λ x q k. search rules))
