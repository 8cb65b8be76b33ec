use Rattle.std.proofs.Common.{rules}
use Rattle.aba_laws.proofs.DecidingLemmas.{in_complete}
use Rattle.aba_laws.proofs.deciding.is_grounded.Goals as goal

pub returns-then-is_complete : goal.returns-then-is_complete
returns-then-is_complete c =
    let each = c.is_least.ensures in (
      λ e. record { complete = search rules; least = in_complete _ _ _ c.requires.all (each.0 e) },
      λ h. each.1 (λ t m. record { within = h.least t.set }),
    )
