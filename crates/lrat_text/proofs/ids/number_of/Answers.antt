use Rattle.std.proofs.Common.{arith, sym, ◌∙◌}
use Rattle.lrat_text.proofs.NamedSteps.{ids_high, number_of-low, number_of-line, number_of-nothing}
use Rattle.lrat_text.proofs.ids.number_of.Goals as goal

pub returns-then-is_given : goal.returns-then-is_given
returns-then-is_given c =
    c.new.ensures ∙ sym (number_of-low _ _ _ c.requires c.if-is_given.ensures.given.0 c.if-is_given.ensures.given.1)

pub overflow_add-count : goal.overflow_add-count
overflow_add-count c =
    let high = ids_high _ _ c.requires c.in-Some.index c.in-Some.ensures.some.0 in
    let same = c.in-Some.ensures.some.1 in
    let fits = c.ranges.id.fits in
    omega (arith, high, same, fits)

pub overflow_add-count-in-Some : goal.overflow_add-count-in-Some
overflow_add-count-in-Some c =
    let high = ids_high _ _ c.requires c.in-Some.index c.in-Some.ensures.some.0 in
    let same = c.in-Some.ensures.some.1 in
    let fits = c.ranges.id.fits in
    omega (arith, high, same, fits)

pub returns-in-Some : goal.returns-in-Some
returns-in-Some c =
    let found = number_of-line _ _ _ _ c.requires c.in-Some.ensures.some.0 c.in-Some.ensures.some.1 in
    omega (arith, c.new-in-Some.ensures, found)

pub returns-in-None : goal.returns-in-None
returns-in-None c =
    c.new-in-None.ensures ∙ sym (number_of-nothing _ _ _ c.requires c.if-is_given.ensures.other c.in-None.ensures.none)

pub overflow_cast-index : goal.overflow_cast-index
overflow_cast-index c =
    let high = ids_high _ _ c.requires c.in-Some.index c.in-Some.ensures.some.0 in
    let same = c.in-Some.ensures.some.1 in
    let fits = c.ranges.id.fits in
    omega (arith, high, same, fits)
