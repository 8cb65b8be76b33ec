use Rattle.std.proofs.Common.{rules}
use Rattle.semantics.proofs.ListedSets.{holds_in_all}
use Rattle.semantics.proofs.deciding.is_ideal.Goals as goal

pub returns-then-is_in_all_preferred : goal.returns-then-is_in_all_preferred
returns-then-is_in_all_preferred c = (
  λ e. record { in_all = search rules; largest = holds_in_all _ _ _ c.requires (c.is_largest_in_all.ensures.0 e) },
  λ h. c.is_largest_in_all.ensures.1 (λ t m. record { back = h.largest t }),
)
