use Rattle.std.proofs.Common.{List, ℕ, sym, subst}
use Rattle.plain_lits.specs.declared.lit.Lit.{Lit}
use Rattle.lrat_text.specs.CnfText.{AreWithin}
use Rattle.lrat_text.proofs.steps.Steps.new.Goals as goal

pub new-requires-clause-within : goal.new-requires-clause-within
new-requires-clause-within c =
    subst (λ (v : ℕ). AreWithin v c.into_parts-vars.result.1) (sym c.into_parts-vars.ensures.vars)
    (subst (λ (cs : List (List Lit)). AreWithin c.args.cnf.vars cs) (sym c.into_parts-vars.ensures.clauses)
    c.into_parts-vars.ensures.form.clauses)
