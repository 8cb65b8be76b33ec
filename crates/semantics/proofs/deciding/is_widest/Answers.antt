use Rattle.std.proofs.Common.{rules}
use Rattle.semantics.specs.Notions.{AfOf}
use Rattle.semantics.proofs.ListedSets.{no_wider}
use Rattle.semantics.proofs.deciding.is_widest.Goals as goal

pub returns-then-is_of_mode : goal.returns-then-is_of_mode
returns-then-is_of_mode c = (
  λ e. record {
    has_mode = search rules;
    widest = no_wider c.args.mode (AfOf c.args.f.now) c.args.sets.now c.args.set.now c.requires
        (c.is_nowhere_wider.ensures.0 e);
  },
  λ h. c.is_nowhere_wider.ensures.1 (λ t m. record { back = h.widest t }),
)
