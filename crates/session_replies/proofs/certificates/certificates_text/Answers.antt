use Rattle.std.proofs.Common.{[], ◌+◌, ◌++◌, ap, ◌∙◌}
use Rattle.session_replies.specs.Replies.{certificates_in}
use Rattle.session_replies.proofs.ReplyLemmas.{numbered_more}
use Rattle.session_replies.proofs.certificates.certificates_text.Goals as goal

pub loop-index-preserved : goal.loop-index-preserved
loop-index-preserved c = numbered_more certificates_in [] _ _ c.args.sessions.now c.loop-index.index _
    c.loop-index-test.true c.index-sessions-index.is c.loop-index.invariant
    (c.in_ok-push_certificates.ensures
    ∙ ap (λ replies. c.loop-index.text ++ certificates_in (c.loop-index.index + 1) replies) c.as_slice.ensures)
