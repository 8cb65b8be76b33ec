use Rattle.enumerate_block.proofs.WitnessLemmas.{if_uncovered, may_ask_uncovered}
use Rattle.enumerate_block.proofs.deciding.find_uncovered.Goals as goal

pub find_with-requires : goal.find_with-requires
find_with-requires g c =
    may_ask_uncovered c.args.mode (g.O.Oracle.framework c.args.oracle.now) (g.O.Oracle.log c.args.oracle.now)
    c.args.goal c.args.accepted c.args.cover.now c.as_slice-asks.result.now c.as_slice-asks.ensures c.requires.goal
    c.requires.cover

pub returns-clause-uncovered : goal.returns-clause-uncovered
returns-clause-uncovered g c =
    if_uncovered c.args.mode (g.O.Oracle.framework c.args.oracle.now) _ (g.O.Oracle.log c.args.oracle.now)
    (g.O.Oracle.log c.find_with.new.oracle) c.args.goal c.args.accepted c.args.cover.now c.as_slice-asks.result.now
    c.as_slice-asks.ensures c.members-members.ensures.kept.form c.find_with.ensures.ran.run.grows c.requires.cover
    c.find_with.result c.find_with.ensures.found
