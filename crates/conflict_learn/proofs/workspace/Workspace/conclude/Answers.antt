use Rattle.std.proofs.Common.{false}
use Rattle.plain_lits.specs.declared.lit.Lit.{Lit}
use Rattle.conflict_learn.specs.declared.workspace.Border.TheVariants.{Below}
use Rattle.conflict_learn.specs.Analyses.{analysis_of}
use Rattle.conflict_learn.proofs.Ending.{kept_false, left_uip, more_false}
use Rattle.conflict_learn.proofs.Points.{IsConclusion, asserted, conclusion_of, conclusion_learned, conclusion_level}
use Rattle.conflict_learn.proofs.Points.{conclusion_new, conclusion_unit, conclusion_least}
use Rattle.conflict_learn.proofs.workspace.Workspace.conclude.Goals as goal

abbrev none : Lit
none = record { var = 0; positive = false }

pub reach-reach-requires : goal.reach-reach-requires
reach-reach-requires c =
    kept_false c.args.search.now (Below c.args.start) (analysis_of c.args.self.now) c.requires.uip.at.counted

pub close-requires-clause-left : goal.close-requires-clause-left
close-requires-clause-left c =
    left_uip c.args.search.now c.args.start c.args.index (analysis_of c.args.self.now) c.not-asserting.result
    c.push.new.self.items c.requires.uip
    (asserted c.args.search.now.lits c.lits.result.now c.args.index c.not-asserting.result none
    c.requires.uip.last.within c.lits.ensures.lits c.not-asserting.ensures)
    c.in_ok-push.ensures.items

pub close-requires-clause-falsified : goal.close-requires-clause-falsified
close-requires-clause-falsified c =
    more_false c.args.search.now c.args.start c.args.index (analysis_of c.args.self.now) c.not-asserting.result
    c.push.new.self.items c.requires.uip
    (asserted c.args.search.now.lits c.lits.result.now c.args.index c.not-asserting.result none
    c.requires.uip.last.within c.lits.ensures.lits c.not-asserting.ensures)
    c.in_ok-push.ensures.items

found : (c : goal.In_ok-core) → IsConclusion c.args.search.now (analysis_of c.args.self.now) c.args.index
    c.reach-reach.result c.level_of-level.result c.not-asserting.result c.push.new.self.items c.in_ok-core.core.clause
found c =
    conclusion_of c.args.search.now (analysis_of c.args.self.now) c.args.start c.args.index c.reach-reach.result
    c.level_of-level.result c.not-asserting.result none c.lits.result.now c.push.new.self.items
    c.in_ok-core.core.clause c.starts.result.now c.lits.ensures.form c.requires.decided c.requires.start c.requires.uip
    c.lits.ensures.lits c.not-asserting.ensures c.in_ok-push.ensures.items c.in_ok-core.ensures.clause
    c.reach-reach.ensures c.starts.ensures.starts c.level_of-level.ensures

pub returns-clause-learned : goal.returns-clause-learned
returns-clause-learned c =
    conclusion_learned c.args.search.now (analysis_of c.args.self.now) c.args.index c.reach-reach.result
    c.level_of-level.result c.not-asserting.result c.push.new.self.items c.in_ok-core.core.clause
    c.in_ok-core.core.hints (found c) c.in_ok-core.ensures.hints

pub returns-clause-level : goal.returns-clause-level
returns-clause-level c =
    conclusion_level c.args.search.now (analysis_of c.args.self.now) c.args.index c.reach-reach.result
    c.level_of-level.result c.not-asserting.result c.push.new.self.items c.in_ok-core.core.clause (found c)

pub returns-clause-new : goal.returns-clause-new
returns-clause-new c =
    conclusion_new c.args.search.now (analysis_of c.args.self.now) c.args.index c.reach-reach.result
    c.level_of-level.result c.not-asserting.result c.push.new.self.items c.in_ok-core.core.clause (found c)

pub returns-clause-unit : goal.returns-clause-unit
returns-clause-unit c settled =
    conclusion_unit c.args.search.now (analysis_of c.args.self.now) c.args.index c.reach-reach.result
    c.level_of-level.result c.not-asserting.result c.push.new.self.items c.in_ok-core.core.clause (found c)

pub returns-clause-least : goal.returns-clause-least
returns-clause-least c settled =
    conclusion_least c.args.search.now (analysis_of c.args.self.now) c.args.index c.reach-reach.result
    c.level_of-level.result c.not-asserting.result c.push.new.self.items c.in_ok-core.core.clause (found c)
