use Rattle.std.proofs.Common.{ℕ, rules}
use Rattle.std.specs.Prelude.{IsTrue}
use Rattle.std.proofs.lemmas.Iterator.{cases_from_all, YieldsList-from_slice}
use Rattle.marked_sets.specs.Marks.{is_marked}
use Rattle.marked_sets.proofs.MarkLemmas.{attackers_walk}
use Rattle.marked_sets.proofs.arguments.is_defended.Goals as goal

pub returns : goal.returns
returns c =
    let P : ℕ × ℕ → Type 0 = λ p. IsTrue (is_marked c.args.attacked.now p.1) in
    attackers_walk c.args.plain.now c.args.argument c.attackers_of.result.now c.args.attacked.now _
    c.attackers_of.ensures
    (cases_from_all _ _ _ P (λ x. P x → ⊥) c.all.ensures.ran (YieldsList-from_slice c.attackers_of.result.now cc)
    (λ x q k. search rules) (λ x q k. search rules))
