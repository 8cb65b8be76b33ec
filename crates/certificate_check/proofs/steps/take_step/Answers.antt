use Rattle.std.proofs.lemmas.Result.{IfOk-weaker}
use Rattle.edit_rules.specs.Kinds.{framework_of}
use Rattle.certificate_check.proofs.steps.take_step.Goals as goal

pub returns-in-Side : goal.returns-in-Side
returns-in-Side c = rw c.in-Side.is (IfOk-weaker c.take_side.result _ _
    (λ takes all. all (framework_of c.args.framework.now) c.args.kind c.requires) c.take_side.ensures)

pub returns-in-Derived : goal.returns-in-Derived
returns-in-Derived c =
    rw c.in-Derived.is (rw (c.as_slice-literals.ensures, c.as_slice-hints.ensures) at c.take_derived.ensures)
