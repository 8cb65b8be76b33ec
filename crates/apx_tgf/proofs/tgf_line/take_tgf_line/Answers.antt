use Rattle.std.proofs.Common.{sym, subst}
use Rattle.std.specs.Prelude.{IfErr}
use Rattle.num_text.specs.Views.{line_text}
use Rattle.apx_tgf.specs.declared.format.NameFormat.TheVariants.{Tgf}
use Rattle.apx_tgf.specs.Taking.{IsNoLine}
use Rattle.apx_tgf.proofs.tgf_line.take_tgf_line.Goals as goal

pub returns-then-divided-clause-fault : goal.returns-then-divided-clause-fault
returns-then-divided-clause-fault c = subst
    (λ divided. IfErr c.take_edge.result (IsNoLine Tgf divided (line_text c.args.line.now)))
    (sym c.if-divided.true) c.take_edge.ensures.fault

pub returns-else-divided-clause-fault : goal.returns-else-divided-clause-fault
returns-else-divided-clause-fault c = subst
    (λ divided. IfErr c.take_node.result (IsNoLine Tgf divided (line_text c.args.line.now)))
    (sym c.if-divided.false) c.take_node.ensures.fault
