use Rattle.std.proofs.Common.{ℕ, ◌<◌}
use Rattle.edit_rules.specs.Kinds.{framework_of}
use Rattle.certificate_check.specs.declared.refuting.Flaw.TheVariants.{None as NoFlaw}
use Rattle.certificate_check.specs.Flaws.{FlawAt}
use Rattle.certificate_check.proofs.refuting.check_refutations.Given as goal

abbrev pub invariant-loop-index : goal.invariant-loop-index
invariant-loop-index l =
    (k : ℕ) → k < l.index → FlawAt (framework_of l.framework) l.claims l.refutations k NoFlaw
