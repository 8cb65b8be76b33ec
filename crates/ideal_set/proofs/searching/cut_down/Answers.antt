use Rattle.std.proofs.lemmas.Result.{IfOk-from_err}
use Rattle.goal_lists.proofs.RunLemmas.{ran_nothing}
use Rattle.ideal_set.proofs.IdealLemmas.{if_cut, search_beside_cut}
use Rattle.ideal_set.proofs.searching.cut_down.Goals as goal

pub cut_grown-requires-clause-set : goal.cut_grown-requires-clause-set
cut_grown-requires-clause-set g c = c.requires.set.admissible

pub cut_grown-requires-clause-other : goal.cut_grown-requires-clause-other
cut_grown-requires-clause-other g c = c.requires.attacks.0

pub returns-in_err-left-clause-cut : goal.returns-in_err-left-clause-cut
returns-in_err-left-clause-cut g c = IfOk-from_err _ _ c.from_residual.ensures.0

pub returns-in_err-left-clause-ran : goal.returns-in_err-left-clause-ran
returns-in_err-left-clause-ran g c =
    ran_nothing _ c.from_residual.ensures c.members-members.ensures.kept (g.met.O.Oracle.stays _)

pub prune-requires-clause-found : goal.prune-requires-clause-found
prune-requires-clause-found g c =
    search_beside_cut (g.O.Oracle.framework c.args.oracle.now) (g.O.Oracle.log c.args.oracle.now) c.args.found.now
    c.cut_grown.new.found c.args.set.now c.args.other c.in_ok-left.left c.requires.found c.requires.set
    c.requires.attacks.0 c.requires.attacks.1 c.requires.asked c.in_ok-left.ensures

pub prune-requires-clause-set : goal.prune-requires-clause-set
prune-requires-clause-set g c = c.in_ok-left.ensures.cut.free

pub returns-clause-cut : goal.returns-clause-cut
returns-clause-cut g c =
    if_cut (g.O.Oracle.framework c.args.oracle.now) (g.O.Oracle.log c.args.oracle.now)
    (g.O.Oracle.log c.prune.new.oracle) c.args.found.now c.cut_grown.new.found c.prune.new.found c.args.set.now
    c.args.other c.in_ok-left.left c.prune.result c.members-members.ensures.kept.numbered
    c.requires.set c.requires.attacks.1 c.in_ok-left.ensures c.prune.ensures.pruned

pub returns-clause-ran : goal.returns-clause-ran
returns-clause-ran g c = c.prune.ensures.ran
