use Rattle.std.proofs.Common.{◌++◌, ap, ◌∙◌}
use Rattle.af_encoding.proofs.EnumerationLemmas.{all_of_members}
use Rattle.semantics.specs.Frameworks.{af}
use Rattle.certificate_claims.specs.Refutations.{IsAxiomOf}
use Rattle.af_encoding.proofs.NeededLemmas.{notion_names, names_begin, names_go, names_end, needed_is_name}
use Rattle.af_encoding.proofs.needed_axioms.needed.Goals as goal

pub loop-argument-init : goal.loop-argument-init
loop-argument-init c = names_begin c.args.plain.now c.live-argument-items.ensures.form _
    (c.in_ok-push_all.ensures ∙ ap (λ xs. xs ++ notion_names) c.in_ok-names.ensures.items)

pub loop-argument-preserved : goal.loop-argument-preserved
loop-argument-preserved c = names_go c.args.plain.now c.live-argument-items.ensures.form c.loop-argument.argument-index
    _ _ (rw c.live-argument-items.ensures.value at c.loop-argument-test.true) c.loop-argument.invariant
    (rw c.live-argument-items.ensures.value at c.in_ok-push_axioms.ensures)

pub returns-clause-all : goal.returns-clause-all
returns-clause-all c = rw c.from_vec.ensures
    (names_end c.args.plain.now c.live-argument-items.ensures.form c.loop-argument.argument-index
    c.loop-argument.names.items (rw c.live-argument-items.ensures.value at c.loop-argument-test.false)
    c.loop-argument.invariant)

pub returns-clause-names : goal.returns-clause-names
returns-clause-names c = all_of_members (IsAxiomOf (af c.args.plain.now)) c.from_vec.result
    (λ name there. needed_is_name c.args.plain.now c.live-argument-items.ensures.form name
    (((returns-clause-all c).members name).0 there))
