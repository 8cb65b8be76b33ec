use Rattle.std.proofs.Common.{◌≡◌, ◌-◌, length, take, ap, ◌∙◌}
use Rattle.hinted_log.proofs.Parts.{popped_steps}
use Rattle.hinted_log.proofs.store.Store.pop.Goals as goal

pub returns : goal.returns
returns c =
    let kinds : c.truncate.new.self.items ≡ take (length c.self.inside.clauses - 1) c.self.inside.kinds.items =
    c.truncate.ensures.items ∙ ap (λ n. take (n - 1) c.self.inside.kinds.items) c.len-kept.ensures in
    rw (← c.self.view_is)
    (popped_steps _ _ _ _ _ _ c.self.invariant c.pop.ensures kinds c.pop-2.ensures)
