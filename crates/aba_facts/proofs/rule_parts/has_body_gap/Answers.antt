use Rattle.std.proofs.Common.{subst}
use Rattle.std.specs.Prelude.{◌↔◌, IsTrue}
use Rattle.meaning_atoms.specs.AbaReadings.{HasNoAtom}
use Rattle.aba_facts.specs.Cuts.{IsClear}
use Rattle.aba_facts.proofs.FactLemmas.{at_index, body_up, iff_both, none_has}
use Rattle.aba_facts.proofs.rule_parts.has_body_gap.Goals as goal

pub is_clear-requires : goal.is_clear-requires
is_clear-requires c = body_up c.args.plain.now c.index_of.ensures.form c.in-Some.index c.body_of.result.now
    c.in-Some.ensures.some.within c.body_of.ensures.value

pub returns-in-Some : goal.returns-in-Some
returns-in-Some c = iff_both
    (subst (λ xs. IsTrue c.is_clear.result ↔ IsClear xs c.args.begin c.args.end) c.body_of.ensures.value
    c.is_clear.ensures)
    (at_index c.args.plain.now c.index_of.ensures.form (HasNoAtom c.args.begin c.args.end) c.in-Some.index c.args.number
    c.in-Some.ensures.some)

pub returns-in-None : goal.returns-in-None
returns-in-None c = none_has c.args.plain.now c.index_of.ensures.form (HasNoAtom c.args.begin c.args.end) c.args.number
    c.in-None.ensures.none
