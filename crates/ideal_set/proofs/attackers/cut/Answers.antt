use Rattle.ideal_set.proofs.AttackerLemmas.{conflict_free_of, is_cut}
use Rattle.ideal_set.proofs.attackers.cut.Goals as goal

pub admissible_part-requires : goal.admissible_part-requires
admissible_part-requires g c =
    conflict_free_of (g.O.Oracle.framework c.args.oracle.now) c.args.set.now c.requires.set

pub returns : goal.returns
returns g c =
    is_cut (g.O.Oracle.framework c.args.oracle.now) c.args.set.now c.args.other c.args.found.now c.keep.new.found
    c.admissible_part.result c.in_ok-keep.ensures c.admissible_part.ensures
