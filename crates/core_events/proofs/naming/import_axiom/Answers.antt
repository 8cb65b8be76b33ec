use Rattle.std.proofs.Common.{◌∙◌, List, refl, subst, sym}
use Rattle.std.proofs.lemmas.Bool.{false≢true}
use Rattle.meaning_atoms.specs.declared.atom.AtomLit.{AtomLit}
use Rattle.edit_rules.specs.Kinds.{framework_of}
use Rattle.oracle_face.specs.Logs.{LogStep}
use Rattle.core_logs.specs.Tests.{HasEntry, IsClauseOf}
use Rattle.core_events.specs.Naming.{MayCome}
use Rattle.core_events.proofs.NamingLemmas.{imports_axiom, lent_axiom, not_come, not_its_clause}
use Rattle.core_events.proofs.naming.import_axiom.Goals as goal

pub returns-then-not-may_come : goal.returns-then-not-may_come
returns-then-not-may_come c =
    let f = framework_of c.args.opening.now in (
      refl,
      λ next is. not_come f c.args.own c.args.entry.now c.args.name.now c.args.log.now c.requires
          (λ come. false≢true (sym c.if-not-may_come.true
          ∙ c.may_come.ensures.1 (subst (λ (s : List LogStep). MayCome f s c.args.name.now) (sym c.steps-2.ensures)
          come))) next is,
    )

pub returns-then-not-branch : goal.returns-then-not-branch
returns-then-not-branch c = (
  refl,
  λ next is. not_its_clause (framework_of c.args.opening.now) c.args.own c.args.entry.now c.args.name.now
      c.args.log.now c.requires
      (λ of. false≢true (sym c.if-not-branch.true
      ∙ c.in_ok-is_clause_of.ensures.1
      (subst (λ (x : List AtomLit). IsClauseOf c.args.name.now x) (sym c.as_slice-clause.ensures) of))) next is,
)

pub returns : goal.returns
returns c =
    let f = framework_of c.args.opening.now in
    let old = c.args.log.now in
    let entry = c.args.entry.now in
    let name = c.args.name.now in
    imports_axiom f c.args.own entry name old c.requires c.take_axiom.new.self
    (c.has_room.ensures.0 c.if-not-has_room.false) c.if-entry-own.false
    (λ number named is. false≢true (sym c.if-has_entry.false
    ∙ c.has_entry.ensures.1 (subst (λ (s : List LogStep). HasEntry s entry.name) (sym c.steps.ensures)
    (record { number = number; named = named; is = is }))))
    (subst (λ (s : List LogStep). MayCome f s name) c.steps-2.ensures
    (c.may_come.ensures.0 c.if-not-may_come.false))
    (subst (λ (x : List AtomLit). IsClauseOf name x) c.as_slice-clause.ensures
    (c.in_ok-is_clause_of.ensures.0 c.if-not-branch.false))
    (lent_axiom old c.take_axiom.new.self entry.clause c.as_slice-clause.result.now name entry.name
    c.as_slice-clause.ensures c.in_ok-take_axiom.ensures.ok)
