use Rattle.std.proofs.Common.{◌≡◌, ◌++◌, take, codes, string_bytes}
use Rattle.std.specs.List.{flat_map}
use Rattle.session_replies.specs.Replies.{history_lines}
use Rattle.session_replies.proofs.history.history_text.Given as goal

abbrev pub invariant-loop-change : goal.invariant-loop-change
invariant-loop-change l = string_bytes l.text
    ≡ codes "history\n" ++ flat_map history_lines (take l.change-index l.changes)
