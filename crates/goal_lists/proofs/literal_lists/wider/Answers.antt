use Rattle.std.proofs.Common.{◌∙◌, ap, not, filter}
use Rattle.certificate_claims.specs.SetLiterals.{are_ranged, has}
use Rattle.goal_lists.proofs.Lacking.{lacks_range}
use Rattle.goal_lists.proofs.literal_lists.wider.Goals as goal

pub returns : goal.returns
returns c f set kind same range =
    c.in_ok-clause.ensures
    ∙ (ap (λ xs. are_ranged (filter (λ x. not (has c.args.range.now x)) xs)) (c.as_slice.ensures.value ∙ same)
    ∙ lacks_range f set c.args.range.now kind range)
