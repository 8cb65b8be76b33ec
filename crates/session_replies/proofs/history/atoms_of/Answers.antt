use Rattle.std.proofs.lemmas.Result.{IfOk-weaker}
use Rattle.session_replies.proofs.ReplyLemmas.{set_in_order}
use Rattle.session_replies.proofs.history.atoms_of.Goals as goal

pub returns : goal.returns
returns c = IfOk-weaker c.from_slice.result _ _ (set_in_order c.args.body.now) c.from_slice.ensures
