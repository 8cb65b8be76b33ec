use Rattle.std.proofs.Common.{map}
use Rattle.num_text.specs.Views.{line_text}
use Rattle.apx_tgf.proofs.TgfLemmas.{node_taken}
use Rattle.apx_tgf.proofs.tgf_line.take_node.Goals as goal

pub returns-then-is_name-clause-ok : goal.returns-then-is_name-clause-ok
returns-then-is_name-clause-ok c =
    node_taken (line_text c.args.line.now) c.args.first.now (map (λ f. f.text) c.args.others) c.args.told.now
    c.declare.new.self c.requires (c.is_name.ensures.0 c.if-is_name.true) c.in_ok-declare.ensures
