use Rattle.std.proofs.Common.{rules}
use Rattle.semantics.proofs.ListedSets.{no_larger}
use Rattle.semantics.proofs.deciding.is_preferred.Goals as goal

pub returns-then-is_admissible : goal.returns-then-is_admissible
returns-then-is_admissible c = (
  λ e. record { admissible = search rules; maximal = no_larger _ _ _ c.requires (c.is_maximal.ensures.0 e) },
  λ h. c.is_maximal.ensures.1 (λ t m. record { back = h.maximal t }),
)
