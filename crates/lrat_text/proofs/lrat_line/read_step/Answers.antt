use Rattle.std.proofs.Common.{rules, refl, sym, subst}
use Rattle.lrat_text.specs.LratText.{FaultsAt}
use Rattle.lrat_text.proofs.LineCauses.{cut_from, parts_from, open_told, id_told, hints_told, literals_told, id_order_told}
use Rattle.lrat_text.proofs.lrat_line.read_step.Goals as goal

pub returns-in_default-number-clause-fault : goal.returns-in_default-number-clause-fault
returns-in_default-number-clause-fault c =
    let cut = cut_from c.args.vars _ _ _ c.in-Some.id.text.now c.in-Some.id.number c.read_literals.new.literals.items
    c.read_hints.new.hints.items _ _ c.in_ok-literals.literals c.in_ok-hints.hints c.fields-rest.ensures.texts
    c.in-Some.ensures.some c.in-Some.ensures.number c.in_ok-literals.ensures c.if-not-is_closed.false
    c.in_ok-hints.ensures in
    let parts = parts_from c.args.vars _ _ _ c.read_literals.new.literals.items c.read_hints.new.hints.items
    c.in_ok-literals.literals c.in_ok-hints.hints c.is_done.result c.in_ok-literals.ensures c.if-not-is_closed.false
    c.in_ok-hints.ensures c.is_done.ensures in
    let form = (c.has_form.ensures _ parts).0 c.if-not-has_form.false in
    subst (FaultsAt c.args.line.now.number _) (sym c.fault-in_default-number.ensures) (refl, id_told c.args.vars c.args.last _ _ _ _ _ _ _ _ cut form c.in_default-number.is)

pub returns-then-is_some-clause-fault : goal.returns-then-is_some-clause-fault
returns-then-is_some-clause-fault c =
    let cut = cut_from c.args.vars _ _ _ c.in-Some.id.text.now c.in-Some.id.number c.read_literals.new.literals.items
    c.read_hints.new.hints.items _ _ c.in_ok-literals.literals c.in_ok-hints.hints c.fields-rest.ensures.texts
    c.in-Some.ensures.some c.in-Some.ensures.number c.in_ok-literals.ensures c.if-not-is_closed.false
    c.in_ok-hints.ensures in
    let parts = parts_from c.args.vars _ _ _ c.read_literals.new.literals.items c.read_hints.new.hints.items
    c.in_ok-literals.literals c.in_ok-hints.hints c.is_done.result c.in_ok-literals.ensures c.if-not-is_closed.false
    c.in_ok-hints.ensures c.is_done.ensures in
    let form = (c.has_form.ensures _ parts).0 c.if-not-has_form.false in
    subst (FaultsAt c.args.line.now.number _) (sym c.fault-then-is_some.ensures) (refl, hints_told c.args.vars c.args.last _ _ _ _ _ _ _ _ cut form (search rules))

pub returns-in-Some-cause-clause-fault : goal.returns-in-Some-cause-clause-fault
returns-in-Some-cause-clause-fault c =
    let cut = cut_from c.args.vars _ _ _ c.in-Some.id.text.now c.in-Some.id.number c.read_literals.new.literals.items
    c.read_hints.new.hints.items _ _ c.in_ok-literals.literals c.in_ok-hints.hints c.fields-rest.ensures.texts
    c.in-Some.ensures.some c.in-Some.ensures.number c.in_ok-literals.ensures c.if-not-is_closed.false
    c.in_ok-hints.ensures in
    let parts = parts_from c.args.vars _ _ _ c.read_literals.new.literals.items c.read_hints.new.hints.items
    c.in_ok-literals.literals c.in_ok-hints.hints c.is_done.result c.in_ok-literals.ensures c.if-not-is_closed.false
    c.in_ok-hints.ensures c.is_done.ensures in
    let form = (c.has_form.ensures _ parts).0 c.if-not-has_form.false in
    subst (FaultsAt c.args.line.now.number _) (sym c.fault-in-Some-cause.ensures) (refl, literals_told c.args.vars c.args.last _ _ _ _ _ _ _ _ _ c.in-Some-cause.cause cut form c.in-Some-number.is (search rules) c.in-Some-cause.is)

pub returns-then-number-last-clause-fault : goal.returns-then-number-last-clause-fault
returns-then-number-last-clause-fault c =
    let cut = cut_from c.args.vars _ _ _ c.in-Some.id.text.now c.in-Some.id.number c.read_literals.new.literals.items
    c.read_hints.new.hints.items _ _ c.in_ok-literals.literals c.in_ok-hints.hints c.fields-rest.ensures.texts
    c.in-Some.ensures.some c.in-Some.ensures.number c.in_ok-literals.ensures c.if-not-is_closed.false
    c.in_ok-hints.ensures in
    let parts = parts_from c.args.vars _ _ _ c.read_literals.new.literals.items c.read_hints.new.hints.items
    c.in_ok-literals.literals c.in_ok-hints.hints c.is_done.result c.in_ok-literals.ensures c.if-not-is_closed.false
    c.in_ok-hints.ensures c.is_done.ensures in
    let form = (c.has_form.ensures _ parts).0 c.if-not-has_form.false in
    subst (FaultsAt c.args.line.now.number _) (sym c.fault-then-number-last.ensures) (refl, id_order_told c.args.vars c.args.last _ _ _ _ _ _ _ _ _ cut form c.in-Some-number.is (search rules) c.in_default-cause.is (search rules))

pub returns-then-not-is_closed-clause-fault : goal.returns-then-not-is_closed-clause-fault
returns-then-not-is_closed-clause-fault c =
    subst (FaultsAt c.args.line.now.number _) (sym c.fault-then-not-is_closed.ensures) (
      refl,
      open_told c.args.vars c.args.last _ _ _ c.in-Some.id.text.now c.read_literals.new.literals.items _
          c.in_ok-literals.literals c.fields-rest.ensures.texts c.in-Some.ensures.some c.in_ok-literals.ensures
          c.if-not-is_closed.true,
    )
