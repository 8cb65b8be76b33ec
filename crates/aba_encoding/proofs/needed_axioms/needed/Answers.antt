use Rattle.std.proofs.Common.{◌++◌}
use Rattle.std.specs.List.{flat_map, range_with_len}
use Rattle.meaning_atoms.specs.AxiomNames.{IsAxiomName}
use Rattle.af_encoding.proofs.EnumerationLemmas.{all_of_members}
use Rattle.aba_encoding.specs.Listing.{assumption_axioms, atom_axioms, common_axioms, rule_axioms}
use Rattle.aba_encoding.proofs.ListingLemmas.{gains_on}
use Rattle.aba_encoding.proofs.NeededLemmas.{needed_is_axiom}
use Rattle.aba_encoding.proofs.Enumerated.{enumerated}
use Rattle.aba_encoding.proofs.needed_axioms.needed.Goals as goal

pub returns-clause-all : goal.returns-clause-all
returns-clause-all c =
    let f = c.args.plain.now in
    let assumptions = flat_map (assumption_axioms f) f.assumptions in
    let rules = flat_map rule_axioms f.rules in
    let atoms = flat_map (atom_axioms f) (range_with_len 1 f.atoms) in
    rw c.from_vec.ensures
    (enumerated f c.push_assumptions.ensures.form _ c.new-names.result.items
    (gains_on common_axioms (assumptions ++ (rules ++ atoms)) c.new-names.result.items _ _ c.in_ok-push_all.ensures
    (gains_on assumptions (rules ++ atoms) _ _ _ c.in_ok-push_assumptions.ensures.gains
    (gains_on rules atoms _ _ _ c.in_ok-push_rules.ensures c.in_ok-push_atoms.ensures)))
    c.new-names.ensures.items)

pub returns-clause-names : goal.returns-clause-names
returns-clause-names c = all_of_members IsAxiomName c.from_vec.result
    (λ name there. needed_is_axiom c.args.plain.now c.push_assumptions.ensures.form name
    (((returns-clause-all c).members name).0 there))
