use Rattle.goal_lists.proofs.RunLemmas.{ran_search}
use Rattle.cegar_preferred.proofs.CoverLemmas.{if_uncovered, may_ask_uncovered}
use Rattle.cegar_preferred.proofs.accepting.find_uncovered.Goals as goal

pub search_query-requires : goal.search_query-requires
search_query-requires g c =
    may_ask_uncovered (g.O.Oracle.framework c.args.oracle.now) (g.O.Oracle.log c.args.oracle.now) c.args.goal
    c.args.cover.now c.as_slice.result.now c.as_slice.ensures c.requires.goal c.requires.cover

pub returns-clause-uncovered : goal.returns-clause-uncovered
returns-clause-uncovered g c =
    if_uncovered (g.O.Oracle.framework c.args.oracle.now) _ (g.O.Oracle.log c.args.oracle.now)
    (g.O.Oracle.log c.search_query.new.oracle) c.args.goal c.args.cover.now c.as_slice.result.now c.as_slice.ensures
    c.search_query.ensures.ran.run.grows c.requires.cover c.search_query.result c.search_query.ensures.found

pub returns-clause-ran : goal.returns-clause-ran
returns-clause-ran g c = ran_search c.search_query.ensures.ran
