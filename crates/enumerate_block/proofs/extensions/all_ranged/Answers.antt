use Rattle.std.proofs.Common.{arith, subst, sym}
use Rattle.certificate_claims.specs.Claims.{widest_semantics}
use Rattle.enumerate_block.specs.Extensions.{IsListOf}
use Rattle.enumerate_block.proofs.ExtensionLemmas.{is_widest, made_ranges}
use Rattle.goal_lists.proofs.RunLemmas.{ran_as, ran_handed}
use Rattle.enumerate_block.proofs.extensions.all_ranged.Goals as goal

pub returns-clause-listed : goal.returns-clause-listed
returns-clause-listed g c =
    let f = g.O.Oracle.framework c.args.oracle.now in
    subst (IsListOf f (g.O.Oracle.log c.all_widest.new.oracle) (widest_semantics c.args.mode) c.args.limit)
    (sym c.extensions_with.ensures)
    (is_widest f (g.O.Oracle.framework c.all_widest.new.oracle) (g.O.Oracle.log c.all_widest.new.oracle)
    c.args.mode c.args.limit c.in_ok-ranged.ranged c.requires c.in_ok-ranged.ensures.ran.framework
    c.in_ok-ranged.ensures.ran.kept
    c.in_ok-ranged.ensures.ranged)

pub returns-in_err-ranged-clause-ran : goal.returns-in_err-ranged-clause-ran
returns-in_err-ranged-clause-ran g c =
    ran_handed _ c.from_residual.ensures (ran_as (made_ranges c.args.mode _) (omega arith) c.in_err-ranged.ensures.ran)

pub returns-clause-ran : goal.returns-clause-ran
returns-clause-ran g c = ran_as (made_ranges c.args.mode _) (omega arith) c.in_ok-ranged.ensures.ran
