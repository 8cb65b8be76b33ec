use Rattle.af_encoding.proofs.GainedLemmas.{on_as, past_place}
use Rattle.af_encoding.proofs.changing.push_past.Goals as goal

pub returns : goal.returns
returns c =
    on_as _ _ _ _ c.push_step.result
    (past_place c.args.plain.now c.args.target c.args.attacker c.place_before-start.result c.place_before-start.ensures)
    c.push_step.ensures
