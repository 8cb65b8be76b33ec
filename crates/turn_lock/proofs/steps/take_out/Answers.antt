use Rattle.std.proofs.Common.{◌∷◌, Some, ap, sym, ◌∙◌}
use Rattle.atomic_table.specs.Table.{rest}
use Rattle.turn_lock.proofs.steps.take_out.Goals as goal

pub exchange-requires : goal.exchange-requires
exchange-requires g c = let full = c.requires.full.1 in
    (c.requires.table.0, (Some c.requires.full.0, full ∙ ap (λ l. (0, Some c.requires.full.0) ∷ l) (sym (ap rest full))))
