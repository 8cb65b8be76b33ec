use Rattle.std.proofs.Common.{ap, refl, not}
use Rattle.edit_rules.specs.Numbers.{has_number}
use Rattle.edit_rules.specs.Edits.{unknown}
use Rattle.edit_rules.specs.declared.effect.EditFault.TheVariants.{UnknownArgument}
use Rattle.edit_rules.proofs.EditWordTests.{number_there, is_false, not_so}
use Rattle.edit_rules.proofs.RowOutcomes.{stands}
use Rattle.edit_rules.proofs.edits.check_live.Goals as goal

pub returns-then-not-is_live-clause-told : goal.returns-then-not-is_live-clause-told
returns-then-not-is_live-clause-told c more done =
    stands (unknown c.args.plain.now c.args.argument) more done (UnknownArgument c.args.argument)
    (ap not (is_false (has_number c.args.plain.now.live c.args.argument) (λ t.
    not_so c.is_live.result _ c.is_live.ensures c.if-not-is_live.true
    (number_there c.args.plain.now.live c.args.argument t)))) refl
