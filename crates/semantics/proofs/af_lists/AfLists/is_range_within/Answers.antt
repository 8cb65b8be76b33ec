use Rattle.std.proofs.Common.{rules, inl, inr, refl}
use Rattle.semantics.specs.Notions.{AfOf}
use Rattle.semantics.proofs.ListedSets.{range_by}
use Rattle.semantics.proofs.af_lists.AfLists.is_range_within.Goals as goal

pub returns-then-are_in_range : goal.returns-then-are_in_range
returns-then-are_in_range c = (
  λ e. range_by (AfOf c.args.self.now) c.args.set.now c.args.other.now
      (c.if-are_in_range.ensures.0 refl) (c.covers_targets.ensures.0 e),
  λ h. c.covers_targets.ensures.1 (λ b a at m. h a (inr (b, m, at))),
)

pub returns-else-are_in_range : goal.returns-else-are_in_range
returns-else-are_in_range c = (
  λ e. absurd (search rules),
  λ h. c.are_in_range.ensures.1 (λ a m. h a (inl m)),
)
