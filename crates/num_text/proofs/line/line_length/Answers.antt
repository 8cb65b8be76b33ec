use Rattle.std.proofs.Common.{◌∙◌}
use Rattle.num_text.proofs.LineEnds.{line_end_of}
use Rattle.num_text.proofs.line.line_length.Goals as goal

pub returns : goal.returns
returns c = c.unwrap_or.ensures ∙ line_end_of c.args.bytes.now c.memchr.result c.memchr.ensures
