use Rattle.std.proofs.Common.{◌-◌, take, ap, ◌∙◌}
use Rattle.hinted_log.proofs.Parts.{popped_firsts}
use Rattle.hinted_log.proofs.clause_rows.ClauseRows.pop.Goals as goal

pub invariant_of-self : goal.invariant_of-self
invariant_of-self c =
    popped_firsts _ _ _ _ c.self.invariant c.pop.ensures
    (c.truncate.ensures.items ∙ ap (λ n. take (n - 1) c.self.inside.firsts.items) c.len-kept.ensures)
