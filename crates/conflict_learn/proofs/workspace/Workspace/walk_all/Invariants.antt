use Rattle.conflict_learn.specs.declared.workspace.Border.TheVariants.{Assumed}
use Rattle.conflict_learn.specs.Analyses.{analysis_of, IsAt}
use Rattle.conflict_learn.proofs.workspace.Workspace.walk_all.Given as goal

abbrev pub invariant-loop-self : goal.invariant-loop-self
invariant-loop-self l = IsAt l.search Assumed (analysis_of l.self) l.index

abbrev pub decreases-loop-self : goal.decreases-loop-self
decreases-loop-self l = l.index
