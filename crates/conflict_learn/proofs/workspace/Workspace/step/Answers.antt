use Rattle.conflict_learn.specs.Analyses.{analysis_of}
use Rattle.conflict_learn.proofs.Walking.{at_unmarked, at_kept}
use Rattle.conflict_learn.proofs.workspace.Workspace.step.Goals as goal

pub returns-then-not-index-clause-at : goal.returns-then-not-index-clause-at
returns-then-not-index-clause-at c =
    at_unmarked c.args.search.now c.args.border (analysis_of c.args.self.now) c.args.index c.index.result.now
    c.requires.at c.index.ensures c.if-not-index.true

pub returns-then-keeps-clause-at : goal.returns-then-keeps-clause-at
returns-then-keeps-clause-at c =
    at_kept c.args.search.now c.args.border (analysis_of c.args.self.now) c.args.index c.keeps.result
    c.requires.at c.keeps.ensures c.if-keeps.true
