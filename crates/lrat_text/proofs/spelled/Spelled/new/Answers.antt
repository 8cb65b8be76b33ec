use Rattle.std.proofs.Common.{ap, sym, subst, ◌∙◌}
use Rattle.lrat_text.specs.CnfText.{formula}
use Rattle.lrat_text.specs.Spelling.{AreSpelled, clauses_of}
use Rattle.lrat_text.proofs.Spellings.{all_spelled, clauses_read}
use Rattle.lrat_text.proofs.spelled.Spelled.new.Goals as goal

pub invariant_of-result : goal.invariant_of-result
invariant_of-result c = record {
  few = c.requires;
  spelled = λ e. subst (λ x. AreSpelled x) (sym c.in_ok-bench.ensures) (all_spelled c.args.rows.now);
}

pub returns : goal.returns
returns c =
    ap (λ b. formula c.args.vars (clauses_of b)) c.in_ok-bench.ensures
    ∙ ap (λ cs. formula c.args.vars cs) (clauses_read c.args.rows.now)
