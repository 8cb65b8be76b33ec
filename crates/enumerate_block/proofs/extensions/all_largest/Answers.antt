use Rattle.std.proofs.Common.{◌+◌, ◌*◌, length, subst, sym, arith}
use Rattle.iccma_tasks.specs.declared.task.Semantics.TheVariants.{Preferred}
use Rattle.enumerate_block.specs.Extensions.{IsListOf}
use Rattle.enumerate_block.proofs.ExtensionLemmas.{is_largest, made_outside}
use Rattle.goal_lists.proofs.RunLemmas.{ran_as, ran_handed, ran_lost}
use Rattle.enumerate_block.proofs.extensions.all_largest.Goals as goal

pub returns-clause-listed : goal.returns-clause-listed
returns-clause-listed g c =
    let f = g.O.Oracle.framework c.args.oracle.now in
    subst (IsListOf f (g.O.Oracle.log c.all_preferred.new.oracle) Preferred c.args.limit)
    (sym c.in_ok-extensions.ensures)
    (is_largest f (g.O.Oracle.framework c.all_preferred.new.oracle) (g.O.Oracle.log c.all_preferred.new.oracle)
    c.args.limit c.in_ok-listed.listed c.in_ok-listed.ensures.ran.framework c.in_ok-listed.ensures.ran.kept
    c.in_ok-listed.ensures.listed)

pub returns-in_err-listed-clause-ran : goal.returns-in_err-listed-clause-ran
returns-in_err-listed-clause-ran g c =
    ran_handed _ c.from_residual.ensures (ran_as (made_outside _) (omega arith) c.in_err-listed.ensures.ran)

pub returns-clause-ran : goal.returns-clause-ran
returns-clause-ran g c = ran_as (made_outside _) (omega arith) c.in_ok-listed.ensures.ran

pub returns-in_err-extensions-clause-ran : goal.returns-in_err-extensions-clause-ran
returns-in_err-extensions-clause-ran g c =
    ran_lost _ c.from_residual-in_err-extensions.ensures (omega arith)
    (ran_as {most = 2 * length (g.O.Oracle.log c.all_preferred.new.oracle).sides + 2} (made_outside _) (omega arith)
    c.in_ok-listed.ensures.ran)
