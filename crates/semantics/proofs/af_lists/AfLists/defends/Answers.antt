use Rattle.std.proofs.Common.{◌≡◌, ℕ, List, rules}
use Rattle.std.specs.Prelude.{Contains}
use Rattle.std.proofs.lemmas.Iterator.{cases_from_all, YieldsList-from_slice}
use Rattle.lists.specs.Members.{IsWithin}
use Rattle.semantics.specs.Framework.{Attacks, IsAttackedBy, Defends, IsInRange, IsAdmissible, IsComplete, IsPreferred, IsRangeWithin, IsInAllPreferred}
use Rattle.semantics.specs.Notions.{AfOf}
use Rattle.semantics.proofs.ListedSets.{defends_by}
use Rattle.semantics.proofs.af_lists.AfLists.defends.Goals as goal
use Rattle.lists.proofs.Walks.{all_members}

pub returns : goal.returns
returns c =
    let P : ℕ × ℕ → Type 0 = λ p. p.1 ≡ c.args.argument → IsAttackedBy (AfOf c.args.self.now) c.args.set.now p.0 in
    defends_by (AfOf c.args.self.now) c.args.set.now c.args.argument _ (all_members P c.args.self.now.attacks.now _
    (cases_from_all _ _ _ P (λ x. P x → ⊥) c.all.ensures.ran (YieldsList-from_slice c.args.self.now.attacks.now cc)
    (λ x q k. search rules) (λ x q k. search rules)))
