use Rattle.aba_encoding.proofs.GainedLemmas.{on_added}
use Rattle.aba_encoding.proofs.contrary_changes.push_added.Goals as goal

pub returns : goal.returns
returns c =
    on_added c.args.plain.now c.next-next.ensures.form c.args.assumption c.args.contrary
    c.place_before_contrary-start.result c.place_before_contrary-start.ensures _ _ _ c.push_past.result
    c.in_ok-push_all.ensures c.push_past.ensures
