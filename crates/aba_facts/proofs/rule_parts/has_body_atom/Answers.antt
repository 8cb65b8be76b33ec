use Rattle.std.proofs.Common.{subst}
use Rattle.std.specs.Prelude.{Contains, ◌↔◌, IsTrue}
use Rattle.aba_facts.proofs.FactLemmas.{at_index, body_up, iff_both, none_has}
use Rattle.aba_facts.proofs.rule_parts.has_body_atom.Goals as goal

pub has_second-requires : goal.has_second-requires
has_second-requires c = body_up c.args.plain.now c.index_of.ensures.form c.in-Some.index c.body_of.result.now
    c.in-Some.ensures.some.within c.body_of.ensures.value

pub returns-in-Some : goal.returns-in-Some
returns-in-Some c = iff_both
    (subst (λ xs. IsTrue c.has_second.result ↔ Contains xs c.args.atom) c.body_of.ensures.value c.has_second.ensures)
    (at_index c.args.plain.now c.index_of.ensures.form (λ r. Contains r.body c.args.atom) c.in-Some.index c.args.number
    c.in-Some.ensures.some)

pub returns-in-None : goal.returns-in-None
returns-in-None c = none_has c.args.plain.now c.index_of.ensures.form (λ r. Contains r.body c.args.atom) c.args.number
    c.in-None.ensures.none
