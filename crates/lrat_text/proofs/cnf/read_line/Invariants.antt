use Rattle.std.proofs.Common.{length, map}
use Rattle.num_text.specs.Cuts.{field_texts}
use Rattle.lrat_text.specs.CnfText.{cut}
use Rattle.lrat_text.proofs.CnfLines.{LineTo}
use Rattle.lrat_text.proofs.cnf.read_line.Given as goal

abbrev pub invariant-loop-field : goal.invariant-loop-field
invariant-loop-field l = LineTo l.vars (field_texts l.line.text.now) (map (λ f. f.text) l.parts)
    (cut l.initial.clauses l.initial.open.items) (cut l.clauses l.open.items) l.outside

abbrev pub decreases-loop-field : goal.decreases-loop-field
decreases-loop-field l = length l.parts
