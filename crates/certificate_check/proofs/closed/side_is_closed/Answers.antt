use Rattle.std.proofs.Common.{◌∙◌, ◌-◌, ap, get_or}
use Rattle.edit_rules.specs.Kinds.{framework_of}
use Rattle.certificate_check.proofs.StepLemmas.{closed_moved, side_at}
use Rattle.certificate_check.proofs.closed.side_is_closed.Goals as goal

pub returns : goal.returns
returns c =
    let set = c.index-sides-number.result in
    closed_moved _ _ _ _ _ (c.as_slice.ensures.value ∙ side_at (framework_of c.args.framework.now) c.args.claim.now.kind
    c.args.claim.now.sides c.args.number set _ c.requires.from_one c.requires.within
    (c.index-sides-number.is ∙ ap (λ xs. get_or xs (c.args.number - 1) set) c.as_slice-sides.ensures)
    c.in_ok-clause.ensures) c.are_closed.ensures
