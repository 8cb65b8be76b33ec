use Rattle.af_encoding.proofs.GainedLemmas.{alone_listed, on_list}
use Rattle.af_encoding.proofs.changing.push_argument.Goals as goal

pub returns : goal.returns
returns c = on_list _ _ _ _ c.push_all.result (alone_listed c.args.argument) c.push_all.ensures
