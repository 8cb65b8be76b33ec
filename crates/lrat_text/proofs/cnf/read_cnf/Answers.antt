use Rattle.lrat_text.proofs.CnfWithin.{read_formula}
use Rattle.lrat_text.proofs.cnf.read_cnf.Goals as goal

pub invariant_of-result : goal.invariant_of-result
invariant_of-result c =
    read_formula _ _ _ _ _ _ c.in_ok-header.ensures.ok.header_is c.in_ok-clauses.ensures
