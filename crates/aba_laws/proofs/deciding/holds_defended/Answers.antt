use Rattle.std.proofs.Common.{ℕ, rules}
use Rattle.std.specs.Prelude.{Contains}
use Rattle.std.proofs.lemmas.Iterator.{cases_from_all, YieldsList-from_slice}
use Rattle.semantics.specs.AbaFrameworks.{collective_of}
use Rattle.semantics.specs.Collectives.{Defends}
use Rattle.aba_laws.specs.Deciding.{AbaOf}
use Rattle.aba_laws.proofs.deciding.holds_defended.Goals as goal
use Rattle.lists.proofs.Walks.{all_members}

pub returns : goal.returns
returns c =
    let P : ℕ → Type 0 =
    λ a. Defends (collective_of (AbaOf c.args.f.now)) c.args.s.now.set a → Contains c.args.s.now.set a in
    all_members P c.args.f.now.assumptions.now _
    (cases_from_all _ _ _ P (λ x. P x → ⊥) c.all.ensures.ran (YieldsList-from_slice c.args.f.now.assumptions.now cc)
    (λ x q k. search rules) (λ x q k. search rules))
