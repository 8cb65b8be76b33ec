use Rattle.std.proofs.Common.{◌∙◌, sym, subst, not, ◌==◌}
use Rattle.std.specs.List.Sorted.{IsStrictlyIncreasing}
use Rattle.std.proofs.lemmas.List.Kept.{IsStrictlyIncreasing-filter}
use Rattle.edit_rules.proofs.numbers.numbers_but.Goals as goal

pub from_rising-requires : goal.from_rising-requires
from_rising-requires c =
    subst IsStrictlyIncreasing (sym (c.as_slice.ensures.value ∙ c.in_ok-kept.ensures))
    (IsStrictlyIncreasing-filter (λ a. not (a == c.args.gone)) c.args.numbers.now c.requires)
