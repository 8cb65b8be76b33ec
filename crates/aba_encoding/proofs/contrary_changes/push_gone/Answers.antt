use Rattle.aba_encoding.proofs.GainedLemmas.{on_gone}
use Rattle.aba_encoding.proofs.contrary_changes.push_gone.Goals as goal

pub returns : goal.returns
returns c =
    on_gone c.args.plain.now c.next-next.ensures.form c.args.assumption c.args.contrary
    c.place_before_contrary-start.result c.place_before_contrary-start.ensures _ _ c.push_past.result
    c.push_past.ensures
