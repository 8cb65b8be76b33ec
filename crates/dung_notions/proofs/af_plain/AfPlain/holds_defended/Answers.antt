use Rattle.std.proofs.Common.{ℕ, rules}
use Rattle.std.specs.Prelude.{Contains}
use Rattle.std.proofs.lemmas.Iterator.{cases_from_all, YieldsList-from_slice}
use Rattle.attack_index.specs.semantics.specs.Framework.{Defends}
use Rattle.dung_notions.proofs.af_plain.AfPlain.holds_defended.Goals as goal
use Rattle.lists.proofs.Walks.{all_members}

pub returns : goal.returns
returns c =
    let P : ℕ → Type 0 = λ a. Defends c.args.self.now c.args.set.now a → Contains c.args.set.now a in
    all_members _ c.args.self.now.live _
    (cases_from_all _ _ _ P (λ x. P x → ⊥) c.all.ensures.ran (YieldsList-from_slice c.args.self.now.live cc)
    (λ x q k. search rules) (λ x q k. search rules))
