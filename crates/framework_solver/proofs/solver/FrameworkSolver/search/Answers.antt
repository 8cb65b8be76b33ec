use Rattle.edit_rules.specs.Kinds.{framework_of}
use Rattle.oracle_face.specs.Growing.{NoSide}
use Rattle.framework_solver.proofs.Forcing.{whole_with}
use Rattle.framework_solver.proofs.GoingOn.{ends_without_loop}
use Rattle.framework_solver.proofs.solver.FrameworkSolver.search.Goals as goal

pub returns-in-Af-clause-whole : goal.returns-in-Af-clause-whole
returns-in-Af-clause-whole c =
    whole_with NoSide c.args.self.now c.search.new.self c.requires.whole
    (c.search.ensures.log (framework_of c.args.self.now.framework) c.requires.whole.guarded) c.search.ensures.run.grows

pub returns-in-Aba-clause-whole : goal.returns-in-Aba-clause-whole
returns-in-Aba-clause-whole c =
    whole_with NoSide c.args.self.now c.search-in-Aba.new.self c.requires.whole
    (c.search-in-Aba.ensures.log (framework_of c.args.self.now.framework) c.requires.whole.guarded)
    c.search-in-Aba.ensures.run.grows

pub returns-in-Af-clause-in_hand : goal.returns-in-Af-clause-in_hand
returns-in-Af-clause-in_hand c =
    ends_without_loop c.search.new.self.log c.search.new.self.pending c.search.result c.search.ensures.in_hand

pub returns-in-Aba-clause-in_hand : goal.returns-in-Aba-clause-in_hand
returns-in-Aba-clause-in_hand c =
    ends_without_loop c.search-in-Aba.new.self.log c.search-in-Aba.new.self.pending c.search-in-Aba.result
    c.search-in-Aba.ensures.in_hand
