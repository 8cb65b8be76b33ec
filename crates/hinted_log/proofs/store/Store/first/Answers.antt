use Rattle.std.proofs.Common.{ap, sym, slice_get, ◌∙◌}
use Rattle.hinted_log.specs.Logs.{Step}
use Rattle.hinted_log.proofs.Parts.{within_parts, steps_of-at}
use Rattle.hinted_log.proofs.store.Store.first.Goals as goal

pub first-requires : goal.first-requires
first-requires c = within_parts _ _ _ _ c.args.index c.self.invariant c.self.view_is c.requires

pub returns : goal.returns
returns c =
    let within = within_parts _ _ _ _ c.args.index c.self.invariant c.self.view_is c.requires in
    rw (← c.self.view_is) (c.first.ensures
    ∙ sym (ap (λ (s : Step). slice_get s.clause 0) (steps_of-at _ _ _ c.args.index c.self.invariant within)))
