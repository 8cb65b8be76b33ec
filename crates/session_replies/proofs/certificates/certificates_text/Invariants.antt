use Rattle.std.proofs.Common.{◌≡◌, take}
use Rattle.session_replies.specs.Replies.{certificates_of}
use Rattle.session_replies.proofs.certificates.certificates_text.Given as goal

abbrev pub invariant-loop-index : goal.invariant-loop-index
invariant-loop-index l = l.text ≡ certificates_of (take l.index l.sessions)
