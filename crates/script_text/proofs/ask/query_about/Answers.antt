use Rattle.std.proofs.Common.{refl, sym, subst, rules, arith}
use Rattle.std.proofs.lemmas.Slice.Zip.{AllZip-long}
use Rattle.num_text.specs.Numerals.{IsReadNumber}
use Rattle.std.specs.Prelude.{codes, ◌∷◌}
use Rattle.script_text.specs.ScriptFaults.{IsFirstCause, StandsOnCommand}
use Rattle.script_text.proofs.CommandCauses.{ask_too_long, bad_ask_number, bad_query, bad_task, made_fits}
use Rattle.script_text.proofs.AskedLines.{asked_by, true_not_false}
use Rattle.script_text.proofs.ask.query_about.Goals as goal

pub returns-then-readings-gt1-clause-wrong : goal.returns-then-readings-gt1-clause-wrong
returns-then-readings-gt1-clause-wrong c = λ texts are.
    let long = AllZip-long IsReadNumber texts c.args.readings.now are in
    ask_too_long c.args.name.now texts (omega (arith, c.if-readings-gt1.true))

pub returns-in_default-clause-wrong : goal.returns-in_default-clause-wrong
returns-in_default-clause-wrong c = λ texts are.
    let long = AllZip-long IsReadNumber texts c.args.readings.now are in
    bad_task c.args.name.now texts (omega (arith, c.if-readings-gt1.false)) c.in_default.ensures.unknown

pub returns-in_err-number-clause-wrong : goal.returns-in_err-number-clause-wrong
returns-in_err-number-clause-wrong c = λ texts are.
    let long = AllZip-long IsReadNumber texts c.args.readings.now are in
    let bad = bad_ask_number c.args.name.now texts c.in-Ok.task (omega (arith, c.if-readings-gt1.false))
    c.in-Ok.ensures.named.0 c.in-Ok.ensures.named.1 (c.in_err-number.ensures.wrong.1 texts are) in
    let told = subst (λ cause. IsFirstCause (StandsOnCommand (codes "ask" ∷ c.args.name.now ∷ texts)) cause)
    (sym c.in_err-number.ensures.wrong.0) bad in
    search (rules, told)

pub returns-in-Some-clause-query : goal.returns-in-Some-clause-query
returns-in-Some-clause-query c = λ texts are.
    let fits = made_fits c.in-Ok.task.problem c.in_ok-number.number
    (λ unfit. true_not_false (c.in-Some.ensures.none.1 unfit)) in
    asked_by c.args.name.now texts c.in-Ok.task c.in_ok-number.number c.in-Some.query c.in-Some.ensures.value
    c.in-Ok.ensures.named.0 c.in-Ok.ensures.named.1 (c.in_ok-number.ensures.number texts are) fits

pub returns-in-None-clause-wrong : goal.returns-in-None-clause-wrong
returns-in-None-clause-wrong c = λ texts are.
    let long = AllZip-long IsReadNumber texts c.args.readings.now are in
    bad_query c.args.name.now texts c.in-Ok.task c.in_ok-number.number (omega (arith, c.if-readings-gt1.false))
    c.in-Ok.ensures.named.0 c.in-Ok.ensures.named.1 (c.in_ok-number.ensures.number texts are)
    (λ fits. c.in-None.ensures.none.0 refl fits)
