use Rattle.std.proofs.Common.{rules}
use Rattle.aba_laws.proofs.DecidingLemmas.{holds_in_all}
use Rattle.aba_laws.proofs.deciding.is_ideal.Goals as goal

pub returns-then-is_in_all_preferred : goal.returns-then-is_in_all_preferred
returns-then-is_in_all_preferred c =
    let each = c.is_largest_in_all.ensures in (
      λ e. record { in_all = search rules; largest = holds_in_all _ _ _ c.requires.all (each.0 e) },
      λ h. each.1 (λ t m. record { back = h.largest t.set }),
    )
