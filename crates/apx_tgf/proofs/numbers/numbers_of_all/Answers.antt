use Rattle.std.proofs.Common.{[], map, rules, sym, subst, arith}
use Rattle.std.specs.List.{AllZip}
use Rattle.std.proofs.lemmas.List.{take_all, length-map}
use Rattle.apx_tgf.specs.Numbered.{AreNumbersOf}
use Rattle.apx_tgf.specs.Views.{told_attack}
use Rattle.apx_tgf.proofs.NumberLemmas.{numbers_more, first_unknown}
use Rattle.apx_tgf.proofs.numbers.numbers_of_all.Goals as goal

pub loop-attack-init : goal.loop-attack-init
loop-attack-init c = subst (λ numbers. AllZip (AreNumbersOf c.args.names.now) [] numbers) (sym c.new-numbers.ensures) tt

pub returns-in_err-numbers_of-clause-fault : goal.returns-in_err-numbers_of-clause-fault
returns-in_err-numbers_of-clause-fault c =
    let unknown = first_unknown told_attack c.args.names.now c.args.attacks.now c.loop-attack.attack-index _
    c.loop-attack.numbers c.in_err-numbers_of.field-0.0 c.loop-attack.invariant c.loop-attack-test.true
    c.in_err-numbers_of.ensures.fault in
    search (rules, unknown)

pub loop-attack-preserved : goal.loop-attack-preserved
loop-attack-preserved c = numbers_more told_attack c.args.names.now c.args.attacks.now c.loop-attack.attack-index _
    c.loop-attack.numbers c.push.new.self c.in_ok-numbers_of.field-0 c.loop-attack.invariant c.loop-attack-test.true
    c.in_ok-numbers_of.ensures.ok c.in_ok-push.ensures.ok

pub returns-clause-ok : goal.returns-clause-ok
returns-clause-ok c = subst (λ ts. AllZip (AreNumbersOf c.args.names.now) ts c.loop-attack.numbers)
    (take_all c.loop-attack.attack-index (map told_attack c.args.attacks.now)
    (let past = c.loop-attack-test.false in let bound = c.loop-attack.auto.attack-index-end in
    omega (arith, length-map c.args.attacks.now told_attack))) c.loop-attack.invariant
