use Rattle.std.proofs.Common.{◌∙◌, List, subst, sym}
use Rattle.std.proofs.lemmas.Bool.{false≢true}
use Rattle.meaning_atoms.specs.declared.atom.AtomLit.{AtomLit}
use Rattle.meaning_atoms.specs.Literals.{AsksNothing}
use Rattle.core_events.specs.Naming.{CallsFirst}
use Rattle.core_events.proofs.NamingLemmas.{none_asking, stands_by}
use Rattle.core_events.proofs.naming.step_of.Goals as goal

pub returns-then-asks_nothing : goal.returns-then-asks_nothing
returns-then-asks_nothing c =
    stands_by c.args.own c.args.steps.now c.args.name.now c.in-Some.number
    (subst (CallsFirst c.args.own c.args.steps.now c.args.name.now) c.in-Some.is c.in_ok-number.ensures)
    (sym c.is_closing_at.ensures ∙ c.if-is_closing_at.false) (subst (λ (clause : List AtomLit). AsksNothing clause) c.clause_at.ensures
    (c.asks_nothing.ensures.0 c.if-asks_nothing.true))

pub returns : goal.returns
returns c =
    none_asking c.args.own c.args.steps.now c.args.name.now c.in-Some.number
    (subst (CallsFirst c.args.own c.args.steps.now c.args.name.now) c.in-Some.is c.in_ok-number.ensures)
    (λ plain. false≢true (sym c.if-asks_nothing.false ∙ c.asks_nothing.ensures.1
    (subst (λ (clause : List AtomLit). AsksNothing clause) (sym c.clause_at.ensures) plain)))
