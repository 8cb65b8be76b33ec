use Rattle.std.proofs.Common.{rules}
use Rattle.std.proofs.lemmas.Iterator.{cases_from_all, YieldsList-from_slice}
use Rattle.aba_laws.specs.declared.theories.Theory.{Theory}
use Rattle.aba_laws.specs.Deciding.{AbaOf, Answers}
use Rattle.aba_laws.proofs.DecidingLemmas.{defends_by}
use Rattle.aba_laws.proofs.deciding.defends.Goals as goal
use Rattle.lists.proofs.Walks.{all_members}

pub returns : goal.returns
returns c =
    let P : Theory → Type 0 = Answers (AbaOf c.args.f.now) c.args.s.now.derived c.args.number in
    defends_by (AbaOf c.args.f.now) c.args.all.now c.args.s.now c.args.number _ c.requires.all c.requires.theory
    (all_members P c.args.all.now _
    (cases_from_all _ _ _ P (λ x. P x → ⊥) c.all.ensures.ran (YieldsList-from_slice c.args.all.now cc)
    (λ x q k. search rules) (λ x q k. search rules)))
