use Rattle.std.proofs.Common.{◌≡◌, ◌+◌, subst, sym}
use Rattle.std.specs.Prelude.{Contains, ◌↔◌}
use Rattle.oracle_face.specs.Walks.{IsWalkEnd}
use Rattle.aba_encoding.proofs.SetLemmas.{last_is_end, other_than}
use Rattle.aba_encoding.proofs.contrary_changes.is_new_end.Goals as goal

pub returns : goal.returns
returns c =
    let b = c.args.contrary in
    let gone = c.args.gone.now in
    other_than c.last_of.result b (IsWalkEnd (Contains gone) (b + 1))
    (subst (λ n. (n ≡ b) ↔ IsWalkEnd (Contains gone) (b + 1)) (sym c.last_of.ensures) (last_is_end gone c.requires b))
