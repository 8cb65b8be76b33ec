use Rattle.std.proofs.Common.{◌≡◌, ◌++◌, take}
use Rattle.session_replies.specs.Replies.{numbered, session_of}
use Rattle.session_replies.proofs.session.push_sessions.Given as goal

abbrev pub invariant-loop-index : goal.invariant-loop-index
invariant-loop-index l = l.text ≡ l.fn.text ++ numbered session_of 1 (take l.index l.sessions)
