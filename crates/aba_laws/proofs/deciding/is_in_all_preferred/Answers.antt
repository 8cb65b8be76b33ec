use Rattle.std.proofs.Common.{rules}
use Rattle.aba_laws.proofs.DecidingLemmas.{in_preferred}
use Rattle.aba_laws.proofs.deciding.is_in_all_preferred.Goals as goal

pub returns-then-is_admissible : goal.returns-then-is_admissible
returns-then-is_admissible c =
    let each = c.is_in_each_preferred.ensures in (
      λ e. record { admissible = search rules; within = in_preferred _ _ _ c.requires.all (each.0 e) },
      λ h. each.1 (λ t m. record { within = h.within t.set }),
    )
