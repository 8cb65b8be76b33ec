use Rattle.std.proofs.Common.{ap, sym, ◌∙◌}
use Rattle.num_text.specs.Views.{line_text}
use Rattle.lrat_text.specs.Lines.{cnf_kept}
use Rattle.lrat_text.proofs.cnf.read_header.Goals as goal

pub returns-in-Ok-clause-ok : goal.returns-in-Ok-clause-ok
returns-in-Ok-clause-ok c = record {
  header = line_text c.in-Some.header;
  lines = ap cnf_kept (sym c.requires.all) ∙ c.in-Some.ensures.some;
  header_is = c.in-Ok.ensures.ok;
}
