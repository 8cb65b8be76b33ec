use Rattle.std.proofs.Common.{◌≡◌, ◌++◌, take, string_bytes}
use Rattle.std.specs.List.{flat_map}
use Rattle.session_replies.specs.Replies.{edit_line}
use Rattle.session_replies.proofs.history.push_edits.Given as goal

abbrev pub invariant-loop-effect : goal.invariant-loop-effect
invariant-loop-effect l = string_bytes l.text
    ≡ string_bytes l.fn.text ++ flat_map (edit_line l.session) (take l.effect-index l.effects)
