use Rattle.std.proofs.Common.{subst, sym, Contains}
use Rattle.std.specs.Prelude.{◌≡◌, ◌↔◌, true}
use Rattle.std.specs.List.Sorted.{IsStrictlyIncreasing}
use Rattle.std.proofs.lemmas.List.Sorted.{searched}
use Rattle.set_lists.proofs.Rising.{found}
use Rattle.edit_rules.specs.Numbers.{has_number}
use Rattle.edit_rules.specs.AbaEdits.{numbers_of}
use Rattle.edit_rules.proofs.TestLemmas.{has_number_tells, same_test}
use Rattle.edit_rules.proofs.checks.is_rule.Goals as goal
use Rattle.lists.proofs.RisingLists.{rises_along}

pub returns : goal.returns
returns c =
    same_test c.is_ok.result (has_number (numbers_of c.args.plain.now.rules) c.args.number)
    (Contains (numbers_of c.args.plain.now.rules) c.args.number)
    (subst (λ xs. (c.is_ok.result ≡ true) ↔ Contains xs c.args.number) c.rule_numbers.ensures.value
    (rw c.is_ok.ensures.value (found c.rule_numbers.result.now c.args.number c.binary_search.result
    (searched _ _ _ c.binary_search.ensures.position (rises_along _
    (subst IsStrictlyIncreasing (sym c.rule_numbers.ensures.value) c.rule_numbers.ensures.form.form.numbers_rise))))))
    (has_number_tells (numbers_of c.args.plain.now.rules) c.args.number)
