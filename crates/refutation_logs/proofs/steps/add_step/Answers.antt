use Rattle.refutation_logs.proofs.steps.add_step.Goals as goal

pub returns-in-Derived : goal.returns-in-Derived
returns-in-Derived c =
    rw c.in-Derived.is (rw (c.as_slice-literals.ensures, c.as_slice-hints.ensures) at c.add_derived.ensures)
