use Rattle.std.specs.Prelude.{Contains}
use Rattle.aba_encoding.proofs.SetLemmas.{negated_test, never_under, under_condition}
use Rattle.aba_encoding.proofs.contrary_changes.is_new_contrary.Goals as goal

pub returns-then-contrary-eq0 : goal.returns-then-contrary-eq0
returns-then-contrary-eq0 c = never_under (λ some. some c.if-contrary-eq0.true)

pub returns : goal.returns
returns c =
    under_condition c.if-contrary-eq0.false
    (negated_test c.has_number.result (Contains c.args.gone.now c.args.contrary) c.has_number.ensures)
