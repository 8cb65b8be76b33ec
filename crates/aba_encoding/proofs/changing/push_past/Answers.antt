use Rattle.aba_encoding.specs.Listing.{head_end, head_step}
use Rattle.aba_encoding.specs.Brought.{by_rule_gone}
use Rattle.aba_encoding.proofs.GainedLemmas.{last_listed, on_brought, past_listed}
use Rattle.aba_encoding.proofs.changing.push_past.Goals as goal

pub returns-in-Some : goal.returns-in-Some
returns-in-Some c =
    let f = c.args.plain.now in
    on_brought (by_rule_gone f c.args.head c.args.number)
    (head_step c.args.head c.place_before-start.result c.in-Some.next) _ _ c.push_all.result
    (past_listed f c.next-next.ensures.form c.args.head c.args.number c.place_before-start.result
    c.place_before-start.ensures c.in-Some.next c.in-Some.ensures.some)
    c.push_all.ensures

pub returns-in-None : goal.returns-in-None
returns-in-None c =
    let f = c.args.plain.now in
    on_brought (by_rule_gone f c.args.head c.args.number)
    (head_end c.args.head c.place_before-start.result) _ _ c.push_all-in-None.result
    (last_listed f c.next-next.ensures.form c.args.head c.args.number c.place_before-start.result
    c.place_before-start.ensures c.in-None.ensures.none)
    c.push_all-in-None.ensures
