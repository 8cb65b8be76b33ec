use Rattle.std.proofs.Common.{subst}
use Rattle.std.specs.Prelude.{IfOk}
use Rattle.oracle_face.specs.Growing.{IsFound}
use Rattle.goal_lists.proofs.RunLemmas.{ran_search}
use Rattle.enumerate_block.proofs.WitnessLemmas.{askable_as, goals_as}
use Rattle.enumerate_block.proofs.deciding.find_with.Goals as goal

pub search_for-requires : goal.search_for-requires
search_for-requires g c =
    askable_as c.args.mode _ _ c.args.goal c.args.accepted _ _ _ _ _ _ _ c.mode_atom.ensures
    c.goals_wanted-wanted.ensures c.requires

pub returns-clause-found : goal.returns-clause-found
returns-clause-found g c =
    subst (λ goals. IfOk c.search_for.result (IsFound (g.O.Oracle.framework c.args.oracle.now)
    (g.O.Oracle.log c.search_for.new.oracle) goals))
    (goals_as c.args.mode c.args.goal c.args.accepted _ _ _ _ _ _ _ c.mode_atom.ensures c.goals_wanted-wanted.ensures)
    c.search_for.ensures.found

pub returns-clause-ran : goal.returns-clause-ran
returns-clause-ran g c = ran_search c.search_for.ensures.ran
