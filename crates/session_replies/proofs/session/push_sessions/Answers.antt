use Rattle.std.proofs.Common.{◌+◌, ◌++◌, ap, ◌∙◌}
use Rattle.session_replies.specs.Replies.{session_of}
use Rattle.session_replies.proofs.ReplyLemmas.{numbered_more}
use Rattle.session_replies.proofs.session.push_sessions.Goals as goal

pub loop-index-preserved : goal.loop-index-preserved
loop-index-preserved c = numbered_more session_of _ _ _ c.args.sessions.now c.loop-index.index _
    c.loop-index-test.true c.index-sessions-index.is c.loop-index.invariant
    (c.in_ok-push_session.ensures
    ∙ ap (λ replies. c.loop-index.text ++ session_of (c.loop-index.index + 1) replies) c.as_slice.ensures)
