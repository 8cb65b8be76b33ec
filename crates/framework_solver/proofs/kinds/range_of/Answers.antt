use Rattle.std.proofs.Common.{IfOk, subst, sym}
use Rattle.lists.specs.Members.{IsSetOf}
use Rattle.edit_rules.specs.declared.framework.Framework.{Framework}
use Rattle.edit_rules.specs.Kinds.{framework_of}
use Rattle.oracle_face.specs.Kinds.{IsRanged}
use Rattle.framework_solver.specs.Solvers.{HasRange}
use Rattle.framework_solver.proofs.KindLemmas.{attacked_ranged}
use Rattle.framework_solver.proofs.kinds.range_of.Goals as goal

pub returns-in_ok-range-in-Af : goal.returns-in_ok-range-in-Af
returns-in_ok-range-in-Af c =
    subst (λ (f : Framework). IsSetOf (IsRanged (framework_of f) c.args.set.now) c.in_ok-range-in-Af.range)
    (sym c.in-Af.is) c.in_ok-range-in-Af.ensures

pub returns-in_ok-attacked-in-Aba : goal.returns-in_ok-attacked-in-Aba
returns-in_ok-attacked-in-Aba c =
    subst (λ (f : Framework). IfOk c.union.result (HasRange (framework_of f) c.args.set.now)) (sym c.in-Aba.is)
    (attacked_ranged c.in-Aba.plain c.args.set.now c.in_ok-attacked-in-Aba.attacked c.union.result
    c.in_ok-attacked-in-Aba.ensures c.union.ensures)
