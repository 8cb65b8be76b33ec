use Rattle.std.proofs.Common.{ℕ, rules}
use Rattle.std.specs.Prelude.{Contains}
use Rattle.std.proofs.lemmas.Iterator.{cases_from_any, YieldsList-from_slice}
use Rattle.dung_notions.proofs.NotionLemmas.{attacks_into_walk}
use Rattle.dung_notions.proofs.af_plain.AfPlain.attacks_into.Goals as goal

pub returns : goal.returns
returns c =
    let P : ℕ × ℕ → Type 0 = λ p. Contains c.args.set.now p.1 in
    attacks_into_walk c.args.self.now c.args.set.now c.args.argument c.targets_of.result.now _ c.targets_of.ensures
    (cases_from_any _ _ _ P (λ x. P x → ⊥) c.any.ensures.ran (YieldsList-from_slice c.targets_of.result.now cc)
    (λ x q k. search rules) (λ x q k. search rules))
