use Rattle.aba_encoding.specs.Brought.{by_rule_head}
use Rattle.aba_encoding.proofs.GainedLemmas.{on_brought, round_axioms, round_listed}
use Rattle.aba_encoding.proofs.changing.push_round.Goals as goal

pub returns : goal.returns
returns c =
    let f = c.args.plain.now in
    let form = c.next-next.ensures.form in
    let place = c.place_before-start.ensures in
    on_brought (by_rule_head f c.args.head c.args.number)
    (round_axioms f form c.args.head c.args.number c.place_before-start.result place) _ _ c.push_all.result
    (round_listed f form c.args.head c.args.number c.place_before-start.result place) c.push_all.ensures
