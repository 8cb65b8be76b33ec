use Rattle.enumerate_block.proofs.WitnessLemmas.{if_within, may_ask_within}
use Rattle.enumerate_block.proofs.deciding.within_range.Goals as goal

pub find_with-requires : goal.find_with-requires
find_with-requires g c =
    may_ask_within c.args.mode (g.O.Oracle.framework c.args.oracle.now) (g.O.Oracle.log c.args.oracle.now) c.args.goal
    c.args.accepted c.args.widest.now c.as_slice-range.result.now c.as_slice-range.ensures.value
    c.members-members.ensures.kept.numbered c.requires.goal c.requires.range

pub returns-clause-within : goal.returns-clause-within
returns-clause-within g c =
    if_within c.args.mode (g.O.Oracle.framework c.args.oracle.now) (g.O.Oracle.log c.find_with.new.oracle) c.args.goal
    c.args.accepted c.args.widest.now c.as_slice-range.result.now c.as_slice-range.ensures.value
    c.members-members.ensures.kept.numbered c.requires.range c.find_with.result c.find_with.ensures.found
