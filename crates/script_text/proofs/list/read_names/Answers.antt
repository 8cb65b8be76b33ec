use Rattle.std.proofs.Common.{rules}
use Rattle.std.specs.String.{string_bytes}
use Rattle.num_text.specs.Lines.{kept}
use Rattle.num_text.specs.Views.{line_text}
use Rattle.script_text.proofs.ListLemmas.{items_next}
use Rattle.script_text.proofs.list.read_names.Goals as goal

pub lines-preserved : goal.lines-preserved
lines-preserved c =
    items_next string_bytes (kept c.args.left) (kept c.lines.left) (kept c.next_kept.new.lines) c.lines.names
    c.push.new.self (line_text c.in-Some.line) c.in_ok-name.name c.lines.invariant c.in-Some.ensures.some
    c.in_ok-name.ensures.name (search rules) c.in_ok-push.ensures.ok
