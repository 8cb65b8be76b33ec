use Rattle.session_replies.specs.Replies.{shown_part}
use Rattle.session_replies.proofs.ReplyLemmas.{numbered_more}
use Rattle.session_replies.proofs.certificates.push_certificates.Goals as goal

pub loop-index-preserved : goal.loop-index-preserved
loop-index-preserved c = numbered_more (shown_part c.args.session) _ _ _ c.args.replies.now c.loop-index.index _
    c.loop-index-test.true c.index-replies-index.is c.loop-index.invariant c.in_ok-push_shown.ensures
