use Rattle.std.proofs.Common.{rules}
use Rattle.aba_laws.proofs.DecidingLemmas.{no_larger}
use Rattle.aba_laws.proofs.deciding.is_preferred.Goals as goal

pub returns-then-is_admissible : goal.returns-then-is_admissible
returns-then-is_admissible c =
    let each = c.is_maximal.ensures in (
      λ e. record { admissible = search rules; maximal = no_larger _ _ _ c.requires.all (each.0 e) },
      λ h. each.1 (λ t m. record { back = h.maximal t.set }),
    )
