use Rattle.std.proofs.Common.{rules}
use Rattle.semantics.proofs.ListedSets.{in_complete}
use Rattle.semantics.proofs.deciding.is_grounded.Goals as goal

pub returns-then-is_complete : goal.returns-then-is_complete
returns-then-is_complete c = (
  λ e. record { complete = search rules; least = in_complete _ _ _ c.requires (c.is_least.ensures.0 e) },
  λ h. c.is_least.ensures.1 (λ t m. record { within = h.least t }),
)
