use Rattle.std.proofs.Common.{refl}
use Rattle.hinted_log.specs.declared.step_kind.StepKind.TheVariants.{Axiom, Side}
use Rattle.lrat_writing.proofs.WriterLemmas.{axiom_more, derived_pushed, given_pushed, side_more}
use Rattle.lrat_writing.proofs.writer.Writer.push.Goals as goal

pub returns-in-Axiom-clause-step : goal.returns-in-Axiom-clause-step
returns-in-Axiom-clause-step c =
    given_pushed c.push_given.result c.args.kind Axiom c.args.clause.now c.args.hints.now c.args.self.now _
    c.in-Axiom.is (λ steps. axiom_more steps c.args.clause.now c.args.hints.now c.args.self.now _) refl refl refl
    c.push_given.ensures.cnf c.push_given.ensures.ids c.push_given.ensures.given

pub returns-in-Side-clause-step : goal.returns-in-Side-clause-step
returns-in-Side-clause-step c =
    given_pushed c.push_given-in-Side.result c.args.kind Side c.args.clause.now c.args.hints.now c.args.self.now _
    c.in-Side.is (λ steps. side_more steps c.args.clause.now c.args.hints.now c.args.self.now _) refl refl refl
    c.push_given-in-Side.ensures.cnf c.push_given-in-Side.ensures.ids c.push_given-in-Side.ensures.given

pub returns-in-Derived-clause-step : goal.returns-in-Derived-clause-step
returns-in-Derived-clause-step c =
    derived_pushed c.push_derived.result c.args.kind c.args.clause.now c.args.hints.now c.args.self.now _
    c.in-Derived.is refl refl refl c.push_derived.ensures.lrat c.push_derived.ensures.ids c.push_derived.ensures.lines
