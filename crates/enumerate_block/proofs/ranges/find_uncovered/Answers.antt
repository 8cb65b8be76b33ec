use Rattle.enumerate_block.proofs.FoundRanges.{if_uncovered, may_ask_uncovered}
use Rattle.goal_lists.proofs.RunLemmas.{ran_search}
use Rattle.enumerate_block.proofs.ranges.find_uncovered.Goals as goal

pub search_for-requires : goal.search_for-requires
search_for-requires g c =
    may_ask_uncovered c.args.mode (g.O.Oracle.framework c.args.oracle.now) (g.O.Oracle.log c.args.oracle.now)
    c.args.found.now
    c.as_slice.result.now c.mode_atom.result c.as_slice.ensures c.mode_atom.ensures c.requires

pub returns-clause-uncovered : goal.returns-clause-uncovered
returns-clause-uncovered g c =
    if_uncovered c.args.mode (g.O.Oracle.framework c.args.oracle.now) _ (g.O.Oracle.log c.args.oracle.now)
    (g.O.Oracle.log c.search_for.new.oracle) c.args.found.now c.as_slice.result.now c.mode_atom.result
    c.as_slice.ensures c.mode_atom.ensures
    c.members-members.ensures.kept.form c.search_for.ensures.ran.run.grows c.requires c.search_for.result
    c.search_for.ensures.found

pub returns-clause-ran : goal.returns-clause-ran
returns-clause-ran g c = ran_search c.search_for.ensures.ran
