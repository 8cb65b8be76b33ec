use Rattle.std.proofs.Common.{◌∙◌, List, ap, refl, subst, sym, take}
use Rattle.std.proofs.lemmas.Bool.{false≢true}
use Rattle.oracle_face.specs.Logs.{LogStep, clauses_of}
use Rattle.session_log.specs.Imports.{StandForSteps}
use Rattle.core_logs.specs.Tests.{HasEntry, IsTakenAt}
use Rattle.core_events.specs.Naming.{StandForSome}
use Rattle.core_events.proofs.NamingLemmas.{imports_by, lent_gains, lent_taken, not_taken}
use Rattle.core_events.proofs.naming.import_by.Goals as goal

pub returns-in_default-2 : goal.returns-in_default-2
returns-in_default-2 c =
    let old = c.args.log.now in
    let entry = c.args.entry.now in
    let told = lent_taken c.in_ok-used.field-0 old.steps c.steps-3.result.now entry.clause c.as_slice-clause.result.now
    c.in-Some.hints c.as_slice.result.now c.steps-3.ensures c.as_slice-clause.ensures c.as_slice.ensures
    c.in_ok-used.ensures in
    let stand = subst (λ (s : List LogStep). StandForSteps c.args.own s c.args.names.now c.in-Some.hints)
    c.steps-2.ensures
    (subst (StandForSome c.args.own c.steps-2.result.now c.args.names.now) c.in-Some.is c.in_ok-hints.ensures) in
    λ f. (
      refl,
      λ next is. not_taken f c.args.own entry c.args.names.now old c.requires c.in-Some.hints stand
          (subst (IsTakenAt (clauses_of old.steps) entry.clause c.in-Some.hints) c.in_default-2.is told) next is,
    )

pub returns : goal.returns
returns c =
    let old = c.args.log.now in
    let entry = c.args.entry.now in
    let used = c.in-Some-2.used in
    let told = lent_taken c.in_ok-used.field-0 old.steps c.steps-3.result.now entry.clause c.as_slice-clause.result.now
    c.in-Some.hints c.as_slice.result.now c.steps-3.ensures c.as_slice-clause.ensures c.as_slice.ensures
    c.in_ok-used.ensures in
    let stand = subst (λ (s : List LogStep). StandForSteps c.args.own s c.args.names.now c.in-Some.hints)
    c.steps-2.ensures
    (subst (StandForSome c.args.own c.steps-2.result.now c.args.names.now) c.in-Some.is c.in_ok-hints.ensures) in
    λ f. imports_by f c.args.own entry c.args.names.now old c.requires c.in-Some.hints used c.take_derived.new.self
    (c.has_room.ensures.0 c.if-not-has_room.false)
    c.if-entry-own.false
    (λ number named is. false≢true (sym c.if-has_entry.false
    ∙ c.has_entry.ensures.1 (subst (λ (s : List LogStep). HasEntry s entry.name) (sym c.steps.ensures)
    (record { number = number; named = named; is = is }))))
    stand (subst (IsTakenAt (clauses_of old.steps) entry.clause c.in-Some.hints) c.in-Some-2.is told)
    (lent_gains old c.take_derived.new.self entry.clause c.as_slice-clause.result.now (take used c.in-Some.hints)
    c.looked_at-kept.result.now entry.name c.as_slice-clause.ensures
    (c.looked_at-kept.ensures ∙ ap (take used) c.as_slice-2.ensures) c.in_ok-take_derived.ensures.ok)
