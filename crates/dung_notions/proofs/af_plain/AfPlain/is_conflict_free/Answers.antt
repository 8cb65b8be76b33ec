use Rattle.std.proofs.Common.{ℕ, rules}
use Rattle.std.specs.Prelude.{Contains}
use Rattle.std.proofs.lemmas.Iterator.{cases_from_all, YieldsList-from_slice}
use Rattle.dung_notions.specs.Notions.{AttacksInto}
use Rattle.dung_notions.proofs.NotionLemmas.{conflict_free_walk}
use Rattle.dung_notions.proofs.af_plain.AfPlain.is_conflict_free.Goals as goal

pub returns : goal.returns
returns c =
    let P : ℕ → Type 0 = λ b. Contains c.args.self.now.live b × (AttacksInto c.args.self.now b c.args.set.now → ⊥) in
    conflict_free_walk c.args.self.now c.args.set.now _
    (cases_from_all _ _ _ P (λ x. P x → ⊥) c.all.ensures.ran (YieldsList-from_slice c.args.set.now cc)
    (λ x q k. search rules) (λ x q k. search rules))
