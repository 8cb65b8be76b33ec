use Rattle.std.proofs.Common.{◌≡◌, subst, sym}
use Rattle.std.specs.Prelude.{Contains, ◌↔◌}
use Rattle.oracle_face.specs.Walks.{IsWalkStep}
use Rattle.aba_encoding.proofs.SetLemmas.{first_is, other_than, never_under, under_condition}
use Rattle.aba_encoding.proofs.contrary_changes.is_new_step.Goals as goal

pub returns-then-contrary-eq0 : goal.returns-then-contrary-eq0
returns-then-contrary-eq0 c = never_under (λ some. some c.if-contrary-eq0.true)

pub returns : goal.returns
returns c =
    let b = c.args.contrary in
    let gone = c.args.gone.now in
    under_condition c.if-contrary-eq0.false
    (other_than c.first_of.result b (IsWalkStep (Contains gone) 1 b)
    (subst (λ n. (n ≡ b) ↔ IsWalkStep (Contains gone) 1 b) (sym c.first_of.ensures)
    (first_is gone c.requires b c.if-contrary-eq0.false)))
