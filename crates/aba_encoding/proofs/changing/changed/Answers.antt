use Rattle.aba_encoding.proofs.GainedLemmas.{called_all}
use Rattle.aba_encoding.proofs.changing.changed.Goals as goal

pub returns : goal.returns
returns c =
    called_all c.args.plain.now c.args.effect.now _ _ _ c.new-names.ensures.items c.from_vec.ensures
    c.in_ok-push_changed.ensures
