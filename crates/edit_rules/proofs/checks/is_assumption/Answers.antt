use Rattle.std.proofs.Common.{subst, Contains}
use Rattle.std.specs.Prelude.{◌≡◌, ◌↔◌, true}
use Rattle.edit_rules.specs.Numbers.{has_number}
use Rattle.edit_rules.proofs.TestLemmas.{has_number_tells, same_test}
use Rattle.edit_rules.proofs.checks.is_assumption.Goals as goal

pub returns : goal.returns
returns c =
    same_test c.contains.result (has_number c.args.plain.now.assumptions c.args.atom)
    (Contains c.args.plain.now.assumptions c.args.atom)
    (subst (λ xs. (c.contains.result ≡ true) ↔ Contains xs c.args.atom) c.assumptions.ensures.value c.contains.ensures)
    (has_number_tells c.args.plain.now.assumptions c.args.atom)
