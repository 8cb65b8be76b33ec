use Rattle.std.proofs.Common.{◌≡◌, ◌++◌, take}
use Rattle.session_replies.specs.Replies.{certificates_in}
use Rattle.session_replies.proofs.certificates.push_certificates.Given as goal

abbrev pub invariant-loop-index : goal.invariant-loop-index
invariant-loop-index l = l.text ≡ l.fn.text ++ certificates_in l.session (take l.index l.replies)
