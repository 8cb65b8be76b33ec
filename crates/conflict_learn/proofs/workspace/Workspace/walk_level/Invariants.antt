use Rattle.std.proofs.Common.{◌<◌}
use Rattle.conflict_learn.specs.declared.workspace.Border.TheVariants.{Below}
use Rattle.conflict_learn.specs.Analyses.{analysis_of, IsAt}
use Rattle.conflict_learn.proofs.workspace.Workspace.walk_level.Given as goal

abbrev pub invariant-loop-self : goal.invariant-loop-self
invariant-loop-self l = IsAt l.search (Below l.start) (analysis_of l.self) l.index × (0 < l.self.open_count)

abbrev pub decreases-loop-self : goal.decreases-loop-self
decreases-loop-self l = l.index
