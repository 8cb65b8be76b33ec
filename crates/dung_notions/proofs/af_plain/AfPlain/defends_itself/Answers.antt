use Rattle.std.proofs.Common.{ℕ, rules}
use Rattle.std.proofs.lemmas.Iterator.{cases_from_all, YieldsList-from_slice}
use Rattle.attack_index.specs.semantics.specs.Framework.{IsAttackedBy}
use Rattle.dung_notions.specs.Notions.{AttacksInto}
use Rattle.dung_notions.proofs.NotionLemmas.{defends_itself_walk}
use Rattle.dung_notions.proofs.af_plain.AfPlain.defends_itself.Goals as goal

pub returns : goal.returns
returns c =
    let P : ℕ → Type 0 = λ b. AttacksInto c.args.self.now b c.args.set.now → IsAttackedBy c.args.self.now c.args.set.now
    b in
    defends_itself_walk c.args.self.now c.args.set.now _ c.live.ensures.form.form
    (cases_from_all _ _ _ P (λ x. P x → ⊥) c.all.ensures.ran (YieldsList-from_slice c.args.self.now.live cc)
    (λ x q k. search rules) (λ x q k. search rules))
