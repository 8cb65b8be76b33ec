use Rattle.std.proofs.Common.{arith, ap, sym, ◌∙◌}
use Rattle.hinted_log.specs.Logs.{Step}
use Rattle.hinted_log.proofs.Parts.{within_parts, steps_of-at}
use Rattle.hinted_log.proofs.store.Store.hints.Goals as goal

pub row-requires : goal.row-requires
row-requires c =
    let within = within_parts _ _ _ _ c.args.index c.self.invariant c.self.view_is c.requires in
    omega (arith, within, c.self.invariant.hints_long)

pub returns : goal.returns
returns c =
    let within = within_parts _ _ _ _ c.args.index c.self.invariant c.self.view_is c.requires in
    rw (← c.self.view_is) (c.row.ensures
    ∙ sym (ap (λ (s : Step). s.hints) (steps_of-at _ _ _ c.args.index c.self.invariant within)))
