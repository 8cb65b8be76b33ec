use Rattle.std.proofs.Common.{length, arith, ap, sym}
use Rattle.hinted_log.specs.Logs.{Step}
use Rattle.hinted_log.proofs.Parts.{within_parts, steps_of-at}
use Rattle.hinted_log.proofs.store.Store.kind.Goals as goal

pub bounds-kinds-index : goal.bounds-kinds-index
bounds-kinds-index c =
    let within = within_parts _ _ _ _ c.args.index c.self.invariant c.self.view_is c.requires in
    omega (arith, within, c.self.invariant.kinds_long, ap length c.as_slice-kinds.ensures.value)

pub returns : goal.returns
returns c =
    let within = within_parts _ _ _ _ c.args.index c.self.invariant c.self.view_is c.requires in
    rw (← c.self.view_is, c.as_slice-kinds.ensures.value)
    (sym (ap (λ (s : Step). s.kind) (steps_of-at _ _ _ c.args.index c.self.invariant within)))
