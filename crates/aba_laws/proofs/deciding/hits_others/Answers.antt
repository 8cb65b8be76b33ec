use Rattle.std.proofs.Common.{ℕ, rules}
use Rattle.std.specs.Prelude.{Contains}
use Rattle.std.proofs.lemmas.Iterator.{cases_from_all, YieldsList-from_slice}
use Rattle.aba_laws.specs.Deciding.{AbaOf, HasContrary}
use Rattle.aba_laws.proofs.deciding.hits_others.Goals as goal
use Rattle.lists.proofs.Walks.{all_members}

pub returns : goal.returns
returns c =
    let P : ℕ → Type 0 =
    λ a. (Contains c.args.s.now.set a → ⊥) → HasContrary (AbaOf c.args.f.now) c.args.s.now.derived a in
    all_members P c.args.f.now.assumptions.now _
    (cases_from_all _ _ _ P (λ x. P x → ⊥) c.all.ensures.ran (YieldsList-from_slice c.args.f.now.assumptions.now cc)
    (λ x q k. search rules) (λ x q k. search rules))
