use Rattle.conflict_learn.specs.declared.workspace.Border.TheVariants.{Below}
use Rattle.conflict_learn.specs.Learning.{last_start}
use Rattle.conflict_learn.specs.Analyses.{analysis_of}
use Rattle.conflict_learn.proofs.Ending.{concluded, concludes_none, left_none, kept_false}
use Rattle.conflict_learn.proofs.workspace.Workspace.give_back.Goals as goal

pub close-requires-clause-left : goal.close-requires-clause-left
close-requires-clause-left c =
    left_none c.args.search.now (Below (last_start c.args.search.now)) (analysis_of c.args.self.now)
    c.requires.at.counted c.requires.none

pub close-requires-clause-falsified : goal.close-requires-clause-falsified
close-requires-clause-falsified c =
    kept_false c.args.search.now (Below (last_start c.args.search.now)) (analysis_of c.args.self.now)
    c.requires.at.counted

pub returns-clause-learned : goal.returns-clause-learned
returns-clause-learned c =
    let border = Below (last_start c.args.search.now) in
    let a = analysis_of c.args.self.now in
    concluded c.args.search.now border a _ c.in_ok-core.core.clause c.in_ok-core.core.hints
    c.requires.form c.requires.at
    (concludes_none c.args.search.now border a c.in_ok-core.core.clause c.requires.at.counted c.requires.none
    c.in_ok-core.ensures.clause)
    c.in_ok-core.ensures.hints
