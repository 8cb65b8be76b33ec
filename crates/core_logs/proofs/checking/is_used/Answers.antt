use Rattle.std.proofs.Common.{rules}
use Rattle.std.proofs.lemmas.Iterator.{cases_from_all, YieldsList-from_slice}
use Rattle.meaning_atoms.specs.declared.atom.AtomLit.{AtomLit}
use Rattle.core_logs.specs.Tests.{IsMet}
use Rattle.core_logs.proofs.NewTests.{used_is}
use Rattle.core_logs.proofs.checking.is_used.Goals as goal
use Rattle.lists.proofs.Walks.{all_members}

pub returns : goal.returns
returns c =
    let P : AtomLit → Type 0 = λ l. IsMet c.args.steps.now c.args.clause.now c.args.hints.now l in
    used_is _ c.args.steps.now c.args.clause.now c.clause_at.result.now c.args.hints.now c.args.hint
    c.clause_at.ensures
    (all_members P c.clause_at.result.now _
    (cases_from_all _ _ _ P (λ x. P x → ⊥) c.all.ensures.ran (YieldsList-from_slice c.clause_at.result.now cc)
    (λ x q k. search rules) (λ x q k. search rules)))
