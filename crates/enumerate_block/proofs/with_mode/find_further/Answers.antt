use Rattle.enumerate_block.proofs.ModeLemmas.{if_further, may_ask_further}
use Rattle.goal_lists.proofs.RunLemmas.{ran_search}
use Rattle.enumerate_block.proofs.with_mode.find_further.Goals as goal

pub search_for-requires : goal.search_for-requires
search_for-requires g c =
    may_ask_further (g.O.Oracle.framework c.args.oracle.now) (g.O.Oracle.log c.args.oracle.now) c.args.mode
    c.args.range.now c.args.listing.now c.as_slice.result.now c.as_slice.ensures
    c.members-members.ensures.kept.numbered c.requires.mode c.requires.range c.requires.listing

pub returns-clause-further : goal.returns-clause-further
returns-clause-further g c =
    if_further (g.O.Oracle.framework c.args.oracle.now) _ (g.O.Oracle.log c.args.oracle.now)
    (g.O.Oracle.log c.search_for.new.oracle) c.args.mode c.args.range.now c.args.listing.now c.as_slice.result.now
    c.as_slice.ensures c.requires.mode c.search_for.ensures.ran.run.grows c.requires.listing c.search_for.result
    c.search_for.ensures.found

pub returns-clause-ran : goal.returns-clause-ran
returns-clause-ran g c = ran_search c.search_for.ensures.ran
