use Rattle.edit_rules.specs.Kinds.{framework_of}
use Rattle.framework_solver.proofs.UpdateLemmas.{behind, effect_of, followed}
use Rattle.framework_solver.proofs.solver.FrameworkSolver.follow_in_copy.Goals as goal

pub lacking_axioms-requires : goal.lacking_axioms-requires
lacking_axioms-requires c =
    behind c.args.self.now (framework_of c.in_ok-framework.framework) c.args.effect.now c.requires.whole
    c.requires.taken
    c.in_ok-framework.ensures

pub returns-clause-whole : goal.returns-clause-whole
returns-clause-whole c =
    let p = c.args.self.now in
    followed p c.in_ok-framework.framework c.in_ok-members.members c.in_ok-needed.needed
    c.args.effect.now.edit c.requires.whole c.in_ok-framework.ensures c.in_ok-members.ensures
    c.in_ok-needed.ensures.needed
    (c.in_ok-needed.ensures.waits (framework_of p.framework) p.solver.log c.requires.whole.numbered
    (effect_of (framework_of p.framework) (framework_of c.in_ok-framework.framework) c.args.effect.now c.requires.taken
    c.in_ok-framework.ensures) c.has_all-had_all.ensures)
