use Rattle.conflict_learn.specs.declared.workspace.Border.TheVariants.{Assumed}
use Rattle.conflict_learn.specs.Analyses.{analysis_of}
use Rattle.conflict_learn.proofs.Ending.{core_learned, core_assumed, left_none, kept_false}
use Rattle.conflict_learn.proofs.workspace.Workspace.final_core.Goals as goal

pub close-requires-clause-left : goal.close-requires-clause-left
close-requires-clause-left c =
    left_none c.args.search.now Assumed (analysis_of c.walk_all.new.self) c.in_ok-_bottom.ensures.at.counted
    c.in_ok-_bottom.ensures.none

pub close-requires-clause-falsified : goal.close-requires-clause-falsified
close-requires-clause-falsified c =
    kept_false c.args.search.now Assumed (analysis_of c.walk_all.new.self) c.in_ok-_bottom.ensures.at.counted

pub returns-clause-learned : goal.returns-clause-learned
returns-clause-learned c =
    core_learned c.args.search.now (analysis_of c.walk_all.new.self) c.in_ok-_bottom._bottom c.close.result
    c.in_ok-_bottom.ensures.form c.in_ok-_bottom.ensures.at c.in_ok-_bottom.ensures.none c.close.ensures.clause
    c.close.ensures.hints

pub returns-clause-assumed : goal.returns-clause-assumed
returns-clause-assumed c =
    core_assumed c.args.search.now (analysis_of c.walk_all.new.self) c.close.result
    c.in_ok-_bottom.ensures.at.counted c.in_ok-_bottom.ensures.none c.close.ensures.clause
