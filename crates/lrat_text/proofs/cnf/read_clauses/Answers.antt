use Rattle.std.proofs.Common.{subst}
use Rattle.num_text.specs.Cuts.{field_texts}
use Rattle.num_text.specs.Views.{line_text}
use Rattle.lrat_text.specs.CnfText.{LineSays, cut}
use Rattle.lrat_text.proofs.CnfLines.{reads_more}
use Rattle.lrat_text.proofs.cnf.read_clauses.Goals as goal

pub loop-line-preserved : goal.loop-line-preserved
loop-line-preserved c = λ result rest.
    c.loop-line.invariant result (reads_more _ _ _ _ (cut c.read_line.new.clauses c.read_line.new.open.items) _ _
    (line_text c.in-Some.line) result c.in-Some.ensures.some
    (subst (LineSays c.args.header.vars (field_texts c.in-Some.line.text.now)
    (cut c.loop-line.clauses c.loop-line.open.items) (cut c.read_line.new.clauses c.read_line.new.open.items))
    c.in_default-2.is c.in_ok-cause.ensures) rest)
