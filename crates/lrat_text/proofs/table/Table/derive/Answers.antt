use Rattle.std.proofs.Common.{subst}
use Rattle.lrat_text.specs.declared.table.Table.{Table}
use Rattle.lrat_text.specs.TableFormula.{formula_of}
use Rattle.lrat_text.specs.Tables.{IsBelow}
use Rattle.lrat_text.proofs.table.Table.derive.Goals as goal

pub derive-requires : goal.derive-requires
derive-requires c = subst (λ (t : Table). IsBelow (formula_of t).vars c.args.clause.now) c.in-Plain.is c.requires

pub derive-requires-in-Spelled : goal.derive-requires-in-Spelled
derive-requires-in-Spelled c =
    subst (λ (t : Table). IsBelow (formula_of t).vars c.args.clause.now) c.in-Spelled.is c.requires
