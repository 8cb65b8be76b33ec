use Rattle.std.proofs.Common.{◌∙◌, sym}
use Rattle.std.proofs.lemmas.Bool.{false≢true}
use Rattle.edit_rules.specs.Kinds.{framework_of}
use Rattle.core_events.proofs.NamingLemmas.{come_from}
use Rattle.core_events.proofs.naming.may_come.Goals as goal

pub returns-then-not-is_axiom_of : goal.returns-then-not-is_axiom_of
returns-then-not-is_axiom_of c = (
  λ t. absurd (false≢true t),
  λ come. absurd (false≢true (sym c.if-not-is_axiom_of.true ∙ c.is_axiom_of.ensures.1 come.of_kind)),
)

pub returns-then-is_loop_clause : goal.returns-then-is_loop_clause
returns-then-is_loop_clause c = (
  λ t. absurd (false≢true t),
  λ come. absurd (false≢true (sym come.no_loop ∙ (sym c.is_loop_clause.ensures ∙ c.if-is_loop_clause.true))),
)

pub returns : goal.returns
returns c = come_from (framework_of c.args.opening.now) c.args.steps.now c.args.name.now c.has_axiom.result
    c.has_axiom.ensures (c.is_axiom_of.ensures.0 c.if-not-is_axiom_of.false)
    (sym c.is_loop_clause.ensures ∙ c.if-is_loop_clause.false)
