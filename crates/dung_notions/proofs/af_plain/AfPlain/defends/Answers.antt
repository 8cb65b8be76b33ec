use Rattle.std.proofs.Common.{ℕ, rules}
use Rattle.std.proofs.lemmas.Iterator.{cases_from_all, YieldsList-from_slice}
use Rattle.attack_index.specs.semantics.specs.Framework.{IsAttackedBy}
use Rattle.dung_notions.proofs.NotionLemmas.{defends_walk}
use Rattle.dung_notions.proofs.af_plain.AfPlain.defends.Goals as goal

pub returns : goal.returns
returns c =
    let P : ℕ × ℕ → Type 0 = λ p. IsAttackedBy c.args.self.now c.args.set.now p.1 in
    defends_walk c.args.self.now c.args.set.now c.args.argument c.attackers_of.result.now _ c.attackers_of.ensures
    (cases_from_all _ _ _ P (λ x. P x → ⊥) c.all.ensures.ran (YieldsList-from_slice c.attackers_of.result.now cc)
    (λ x q k. search rules) (λ x q k. search rules))
