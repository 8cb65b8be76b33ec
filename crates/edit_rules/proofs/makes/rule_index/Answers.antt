use Rattle.std.proofs.Common.{Err, Ok, ◌∙◌, sym, subst, Contains, ap, length, arith}
use Rattle.std.specs.List.Sorted.{IsStrictlyIncreasing}
use Rattle.std.proofs.lemmas.Bool.{false≢true}
use Rattle.std.proofs.lemmas.List.Sorted.{searched}
use Rattle.std.proofs.lemmas.List.{length-map}
use Rattle.semantics.specs.Rules.{Rule}
use Rattle.set_lists.proofs.Rising.{found}
use Rattle.edit_rules.proofs.EditWordTests.{number_there}
use Rattle.edit_rules.proofs.RuleLists.{number_at}
use Rattle.edit_rules.proofs.makes.rule_index.Goals as goal
use Rattle.lists.proofs.RisingLists.{rises_along}

pub returns-in-Ok-clause-number : goal.returns-in-Ok-clause-number
returns-in-Ok-clause-number c =
    let place = searched c.rule_numbers.result.now c.args.number (Ok c.in-Ok.index) c.in-Ok.ensures.position
    (rises_along _ (subst IsStrictlyIncreasing (sym c.rule_numbers.ensures.value)
    c.rule_numbers.ensures.form.form.numbers_rise)) in
    sym (number_at c.args.plain.now.rules c.in-Ok.index c.rule_numbers.result.now c.rule_numbers.ensures.value
    (omega (
      arith,
      place.0,
      ap length c.rule_numbers.ensures.value,
      length-map c.args.plain.now.rules (λ (r : Rule). r.number),
    )))
    ∙ place.1

pub returns-in-Err-clause-number : goal.returns-in-Err-clause-number
returns-in-Err-clause-number c =
    let place = searched c.rule_numbers.result.now c.args.number (Err c.in-Err.field-0) c.in-Err.ensures.position
    (rises_along _ (subst IsStrictlyIncreasing (sym c.rule_numbers.ensures.value)
    c.rule_numbers.ensures.form.form.numbers_rise)) in
    absurd (false≢true ((found c.rule_numbers.result.now c.args.number (Err c.in-Err.field-0) place).1
    (subst (λ xs. Contains xs c.args.number) (sym c.rule_numbers.ensures.value) (number_there _ _ c.requires))))
