use Rattle.std.proofs.Common.{◌∙◌, List, ap, subst, sym}
use Rattle.std.proofs.lemmas.Bool.{false≢true}
use Rattle.meaning_atoms.specs.declared.atom.AtomLit.{AtomLit}
use Rattle.meaning_atoms.specs.Literals.{AsksNothing}
use Rattle.oracle_face.specs.Logs.{LogStep}
use Rattle.core_logs.specs.Sources.{source_of}
use Rattle.core_events.specs.Sharing.{OriginOfSome}
use Rattle.core_events.proofs.SharingLemmas.{entry_made}
use Rattle.core_events.proofs.sharing.entry_for.Goals as goal

pub returns-then-not-asks_nothing : goal.returns-then-not-asks_nothing
returns-then-not-asks_nothing c = λ entry is. false≢true (sym c.if-not-asks_nothing.true
    ∙ c.asks_nothing.ensures.1 (subst (λ (clause : List AtomLit). AsksNothing clause)
    (sym (c.clause.ensures ∙ ap (λ (x : LogStep). x.clause) c.in-Some.ensures.some)) is.plain))

pub returns : goal.returns
returns c =
    entry_made c.args.session c.args.number c.args.steps.now c.in-Some.step.now c.in_ok-clause.clause
    c.in-Some-2.origin (source_of c.source.result.now) (c.is_number.ensures.0 c.if-not-is_number.false)
    c.in-Some.ensures.some (c.is_own.ensures.0 c.if-not-is_own.false)
    (subst (λ (clause : List AtomLit). AsksNothing clause) c.clause.ensures
    (c.asks_nothing.ensures.0 c.if-not-asks_nothing.false))
    (c.in_ok-clause.ensures ∙ c.clause-2.ensures) c.source.ensures
    (subst (OriginOfSome c.args.session c.args.steps.now (source_of c.source.result.now)) c.in-Some-2.is
    c.in_ok-origin.ensures)
