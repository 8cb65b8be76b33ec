use Rattle.std.proofs.Common.{◌≡◌, Result, Ok, Err, rules}
use Rattle.std.specs.Prelude.{IfOk}
use Rattle.aba_axioms.proofs.Bounds.{asks_nothing, rows_fit}
use Rattle.aba_axioms.proofs.Validity.{clauses_are_valid}
use Rattle.aba_axioms.proofs.clause.clause_of.Goals as goal

-- what holds of a value holds of the result that is this value
given_ok : {X E : Type 0} (r : Result X E) (x : X) (P : X → Type 0) → IfOk r (λ y. y ≡ x) → P x → IfOk r P
given_ok (Ok y) x P e h = rw e h
given_ok (Err e) x P _ h = search rules

pub returns-clause-valid : goal.returns-clause-valid
returns-clause-valid c = given_ok c.row.result _ _ c.row.ensures (clauses_are_valid c.args.name.now c.requires)

pub returns-clause-bounds : goal.returns-clause-bounds
returns-clause-bounds c = given_ok c.row.result _ _ c.row.ensures (rows_fit c.args.name.now c.requires)

pub returns-clause-no_ask : goal.returns-clause-no_ask
returns-clause-no_ask c = given_ok c.row.result _ _ c.row.ensures (asks_nothing c.args.name.now)
