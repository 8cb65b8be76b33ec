use Rattle.std.proofs.Common.{◌≡◌, ◌++◌, take}
use Rattle.std.specs.List.{flat_map}
use Rattle.session_replies.specs.Replies.{rule_told}
use Rattle.session_replies.proofs.reply.push_rules.Given as goal

abbrev pub invariant-loop-effect : goal.invariant-loop-effect
invariant-loop-effect l = l.text ≡ l.fn.text ++ flat_map rule_told (take l.effect-index l.effects)
