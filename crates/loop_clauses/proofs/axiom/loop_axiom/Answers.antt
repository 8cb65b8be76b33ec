use Rattle.std.proofs.Common.{rules}
use Rattle.meaning_atoms.specs.AbaAxioms.{IsLoop}
use Rattle.meaning_atoms.specs.declared.aba_axiom.AbaAxiom.TheVariants.{B17}
use Rattle.aba_axioms.proofs.Validity.{clauses_are_valid}
use Rattle.loop_clauses.proofs.axiom.loop_axiom.Goals as goal

pub returns-clause-valid : goal.returns-clause-valid
returns-clause-valid c =
    let fits : IsLoop c.args.x c.in_ok-rows.rows = search rules in
    clauses_are_valid (B17 c.closure_of_number-closure.result c.args.x c.in_ok-rows.rows) fits
