use Rattle.std.proofs.Common.{◌+◌, ◌*◌, length, subst, sym, arith}
use Rattle.enumerate_block.specs.Extensions.{IsListOf}
use Rattle.enumerate_block.proofs.ExtensionLemmas.{is_tested, list_mode, made_differs}
use Rattle.goal_lists.proofs.RunLemmas.{ran_as, ran_handed, ran_lost}
use Rattle.enumerate_block.proofs.extensions.all_tested.Goals as goal

pub all_with_mode-requires : goal.all_with_mode-requires
all_with_mode-requires g c = list_mode c.args.semantics c.args.mode c.requires

pub returns-clause-listed : goal.returns-clause-listed
returns-clause-listed g c =
    let f = g.O.Oracle.framework c.args.oracle.now in
    subst (IsListOf f (g.O.Oracle.log c.all_with_mode.new.oracle) c.args.semantics c.args.limit)
    (sym c.in_ok-extensions.ensures)
    (is_tested f (g.O.Oracle.framework c.all_with_mode.new.oracle) (g.O.Oracle.log c.all_with_mode.new.oracle)
    c.args.semantics c.args.mode c.args.limit c.in_ok-listed.listed c.in_ok-listed.ensures.ran.framework
    c.in_ok-listed.ensures.ran.kept c.requires c.in_ok-listed.ensures.listed)

pub returns-in_err-listed-clause-ran : goal.returns-in_err-listed-clause-ran
returns-in_err-listed-clause-ran g c =
    ran_handed _ c.from_residual.ensures (ran_as (made_differs _ c.args.semantics c.args.mode c.requires)
    (omega arith) c.in_err-listed.ensures.ran)

pub returns-clause-ran : goal.returns-clause-ran
returns-clause-ran g c =
    ran_as (made_differs _ c.args.semantics c.args.mode c.requires) (omega arith) c.in_ok-listed.ensures.ran

pub returns-in_err-extensions-clause-ran : goal.returns-in_err-extensions-clause-ran
returns-in_err-extensions-clause-ran g c =
    ran_lost _ c.from_residual-in_err-extensions.ensures (omega arith)
    (ran_as {most = 2 * length (g.O.Oracle.log c.all_with_mode.new.oracle).sides + 2}
    (made_differs _ c.args.semantics c.args.mode c.requires) (omega arith)
    c.in_ok-listed.ensures.ran)
