use Rattle.std.proofs.Common.{◌≡◌, Result, Ok, Err, rules}
use Rattle.std.specs.Prelude.{IfOk}
use Rattle.af_axioms.proofs.Rows.{rows_are_valid}
use Rattle.af_axioms.proofs.Literals.{rows_fit}
use Rattle.af_axioms.proofs.clause.clause_of.Goals as goal

-- what holds of a value holds of the result that is this value
given_ok : {X E : Type 0} (r : Result X E) (x : X) (P : X → Type 0) → IfOk r (λ y. y ≡ x) → P x → IfOk r P
given_ok (Ok y) x P e h = rw e h
given_ok (Err e) x P _ h = search rules

pub returns-clause-valid : goal.returns-clause-valid
returns-clause-valid c = given_ok c.row.result _ _ c.row.ensures (rows_are_valid c.args.name.now)

pub returns-clause-bounds : goal.returns-clause-bounds
returns-clause-bounds c = given_ok c.row.result _ _ c.row.ensures (rows_fit c.args.name.now c.requires)
