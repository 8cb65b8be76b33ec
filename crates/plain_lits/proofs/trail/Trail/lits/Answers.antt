use Rattle.std.proofs.Common.{sym}
use Rattle.plain_lits.proofs.TrailLemmas.{trail_state}
use Rattle.plain_lits.proofs.trail.Trail.lits.Goals as goal

pub returns-clause-form : goal.returns-clause-form
returns-clause-form c = trail_state _ c.self.inside.assignment c.self.inside.starts.items (sym c.self.view_is)
    c.lits.ensures.form c.self.invariant.levels
