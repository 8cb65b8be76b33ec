use Rattle.std.proofs.Common.{ℕ, rules}
use Rattle.std.proofs.lemmas.Iterator.{cases_from_all, YieldsList-from_slice}
use Rattle.semantics.specs.AbaFrameworks.{collective_of}
use Rattle.semantics.specs.Collectives.{Defends}
use Rattle.aba_laws.specs.Deciding.{AbaOf}
use Rattle.aba_laws.proofs.DecidingLemmas.{each_same}
use Rattle.aba_laws.proofs.deciding.defends_members.Goals as goal
use Rattle.lists.proofs.Walks.{all_members}

pub returns : goal.returns
returns c =
    let P : ℕ → Type 0 = λ a. Defends (collective_of (AbaOf c.args.f.now)) c.args.s.now.set a in
    each_same P _ c.as_slice.result.now c.args.s.now.set c.as_slice.ensures
    (all_members P c.as_slice.result.now _
    (cases_from_all _ _ _ P (λ x. P x → ⊥) c.all.ensures.ran (YieldsList-from_slice c.as_slice.result.now cc)
    (λ x q k. search rules) (λ x q k. search rules)))
