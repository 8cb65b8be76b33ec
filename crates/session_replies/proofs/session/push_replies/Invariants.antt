use Rattle.std.proofs.Common.{◌≡◌, ◌++◌, take}
use Rattle.std.specs.List.{flat_map}
use Rattle.session_replies.specs.Replies.{reply_text}
use Rattle.session_replies.proofs.session.push_replies.Given as goal

abbrev pub invariant-loop-reply : goal.invariant-loop-reply
invariant-loop-reply l = l.text ≡ l.fn.text ++ flat_map reply_text (take l.reply-index l.replies)
