use Rattle.std.proofs.Common.{ℕ, List, length, Result}
use Rattle.plain_lits.specs.declared.lit.Lit.{Lit}
use Rattle.lrat_text.specs.declared.fault.CnfCause.{CnfCause}
use Rattle.lrat_text.specs.CnfText.{ReadsTo, cut, no_cut, end_of}
use Rattle.lrat_text.specs.Lines.{cnf_kept}
use Rattle.lrat_text.proofs.cnf.read_clauses.Given as goal

abbrev pub invariant-loop-line : goal.invariant-loop-line
invariant-loop-line l = (result : Result (List (List Lit)) (ℕ × CnfCause))
    → ReadsTo (end_of l.bytes) l.header.vars l.header.count (cut l.clauses l.open.items) (cnf_kept l.left) result
    → ReadsTo (end_of l.bytes) l.header.vars l.header.count no_cut (cnf_kept l.fn.left) result

abbrev pub decreases-loop-line : goal.decreases-loop-line
decreases-loop-line l = length (cnf_kept l.left)
