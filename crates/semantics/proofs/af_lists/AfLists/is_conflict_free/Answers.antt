use Rattle.std.proofs.Common.{rules}
use Rattle.semantics.proofs.af_lists.AfLists.is_conflict_free.Goals as goal

pub returns-then-is_within : goal.returns-then-is_within
returns-then-is_within c = (
  λ e. record { live = search rules; apart = λ b a cb ca at. c.is_apart.ensures.0 e a ca (b, cb, at) },
  λ free. c.is_apart.ensures.1 (λ a ca hit. free.apart hit.0 a hit.1 ca hit.2),
)
