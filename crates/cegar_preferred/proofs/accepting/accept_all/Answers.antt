use Rattle.std.proofs.Common.{◌∙◌, length, arith, subst, sym}
use Rattle.std.specs.Prelude.{Option}
use Rattle.std.proofs.lemmas.Result.{IfOk-from_err}
use Rattle.semantics.specs.Frameworks.{Framework}
use Rattle.oracle_face.specs.declared.face.Found.{Found}
use Rattle.edit_rules.specs.Fitting.{IsKnown}
use Rattle.goal_lists.proofs.RunLemmas.{ran_none, ran_then, then_found, then_handed, then_none}
use Rattle.cegar_preferred.specs.declared.maximal.Maximal.{Maximal}
use Rattle.cegar_preferred.specs.Covers.{Extends, IsCover, IsUncovered}
use Rattle.cegar_preferred.specs.Largest.{MadeOutside}
use Rattle.cegar_preferred.proofs.CoverLemmas.{accepting_found, cover_empty, cover_extended, cover_grown, cover_kept}
use Rattle.cegar_preferred.proofs.CoverLemmas.{extended_of, few_closings, fewer_open, one_more}
use Rattle.cegar_preferred.proofs.accepting.accept_all.Goals as goal

pub loop-cover-init : goal.loop-cover-init
loop-cover-init g c = record {
  cover = cover_empty _ (g.O.Oracle.log c.args.oracle.now) c.args.goal _ c.new.ensures c.new-2.ensures;
  ran = ran_none _ c.members-members.ensures.kept (g.met.O.Oracle.stays _);
}

pub find_uncovered-requires-clause-goal : goal.find_uncovered-requires-clause-goal
find_uncovered-requires-clause-goal g c =
    subst (λ (x : Framework). IsKnown x c.args.goal) (sym c.loop-cover.invariant.ran.framework) c.requires

pub find_uncovered-requires-clause-cover : goal.find_uncovered-requires-clause-cover
find_uncovered-requires-clause-cover g c =
    subst (λ (x : Framework). IsCover x (g.O.Oracle.log c.loop-cover.oracle) c.args.goal c.loop-cover.cover)
    (sym c.loop-cover.invariant.ran.framework) c.loop-cover.invariant.cover

pub returns-in_err-step-clause-accepting : goal.returns-in_err-step-clause-accepting
returns-in_err-step-clause-accepting g c = IfOk-from_err _ _ c.from_residual.ensures.0

pub returns-in_err-step-clause-ran : goal.returns-in_err-step-clause-ran
returns-in_err-step-clause-ran g c =
    let inv = c.loop-cover.invariant in
    let ran = c.in_err-step.ensures.ran in
    then_handed {n = 0} g.met.O.Oracle.joins _ c.from_residual.ensures
    (omega (arith, few_closings _ _ _ _ c.args.goal c.loop-cover.cover inv.cover ran.run.grows)) inv.ran ran

pub returns-in-Refuted-clause-accepting : goal.returns-in-Refuted-clause-accepting
returns-in-Refuted-clause-accepting g c =
    let inv = c.loop-cover.invariant in
    let ran = c.in_ok-step.ensures.ran in
    accepting_found _ _ _ _ c.args.goal c.loop-cover.cover c.in_ok-step.field-0 c.in-Refuted.step inv.ran.framework
    (ran.framework ∙ inv.ran.framework) ran.kept inv.cover.each c.in-Refuted.is c.in_ok-step.ensures.uncovered

pub returns-in-Refuted-clause-ran : goal.returns-in-Refuted-clause-ran
returns-in-Refuted-clause-ran g c =
    let inv = c.loop-cover.invariant in
    let ran = c.in_ok-step.ensures.ran in
    then_none g.met.O.Oracle.joins c.in-Refuted.is
    (few_closings _ _ _ _ c.args.goal c.loop-cover.cover inv.cover ran.run.grows) inv.ran ran

pub extend-requires-clause-cover : goal.extend-requires-clause-cover
extend-requires-clause-cover g c =
    let inv = c.loop-cover.invariant in
    let ran = c.in_ok-step.ensures.ran in
    cover_kept _ _ _ _ _ _ c.args.goal c.loop-cover.cover inv.ran.framework ran.framework ran.run.grows inv.cover

pub extend-requires-clause-set : goal.extend-requires-clause-set
extend-requires-clause-set g c =
    let k = g.O.Oracle.framework c.find_uncovered.new.oracle in
    let log = g.O.Oracle.log c.find_uncovered.new.oracle in
    subst (λ (x : Found). IsUncovered k log c.args.goal c.loop-cover.cover x) c.in-Set.is
    (subst (λ (x : Framework). IsUncovered x log c.args.goal c.loop-cover.cover c.in_ok-step.field-0)
    (sym c.in_ok-step.ensures.ran.framework) c.in_ok-step.ensures.uncovered)

pub returns-in_err-counter-in-Set-clause-accepting : goal.returns-in_err-counter-in-Set-clause-accepting
returns-in_err-counter-in-Set-clause-accepting g c = IfOk-from_err _ _ c.from_residual-in_err-counter-in-Set.ensures.0

pub returns-in_err-counter-in-Set-clause-ran : goal.returns-in_err-counter-in-Set-clause-ran
returns-in_err-counter-in-Set-clause-ran g c =
    let inv = c.loop-cover.invariant in
    let found = then_found g.met.O.Oracle.joins c.in-Set.is inv.ran c.in_ok-step.ensures.ran in
    let cover = cover_grown _ _ _ _ c.args.goal c.loop-cover.cover c.in_ok-step.ensures.ran.run.grows inv.cover in
    let ran = c.in_err-counter-in-Set.ensures.ran in
    then_handed g.met.O.Oracle.joins _ c.from_residual-in_err-counter-in-Set.ensures
    (few_closings _ _ _ _ c.args.goal c.loop-cover.cover cover ran.run.grows) found ran

pub returns-in-Some-clause-accepting : goal.returns-in-Some-clause-accepting
returns-in-Some-clause-accepting g c =
    let log = g.O.Oracle.log c.extend.new.oracle in
    subst (λ (x : Option Maximal). Extends (g.O.Oracle.framework c.args.oracle.now) log c.args.goal c.loop-cover.cover
    c.extend.new.cover x)
    c.in-Some.is
    (subst (λ (x : Framework). Extends x log c.args.goal c.loop-cover.cover c.extend.new.cover
    c.in_ok-counter-in-Set.field-0)
    (c.in_ok-step.ensures.ran.framework ∙ c.loop-cover.invariant.ran.framework)
    c.in_ok-counter-in-Set.ensures.extends)

pub returns-in-Some-clause-ran : goal.returns-in-Some-clause-ran
returns-in-Some-clause-ran g c =
    let inv = c.loop-cover.invariant in
    let found = then_found g.met.O.Oracle.joins c.in-Set.is inv.ran c.in_ok-step.ensures.ran in
    let cover = cover_grown _ _ _ _ c.args.goal c.loop-cover.cover c.in_ok-step.ensures.ran.run.grows inv.cover in
    let ran = c.in_ok-counter-in-Set.ensures.ran in
    ran_then g.met.O.Oracle.joins (few_closings _ _ _ _ c.args.goal c.loop-cover.cover cover ran.run.grows) found ran

pub loop-cover-smaller : goal.loop-cover-smaller
loop-cover-smaller g c =
    let f = g.O.Oracle.framework c.args.oracle.now in
    let log = g.O.Oracle.log c.extend.new.oracle in
    let same = c.in_ok-step.ensures.ran.framework ∙ c.loop-cover.invariant.ran.framework in
    let more = extended_of f _ log c.args.goal c.loop-cover.cover c.extend.new.cover c.in_ok-counter-in-Set.field-0 same
    c.in-None.is c.in_ok-counter-in-Set.ensures.extends in
    fewer_open f log c.args.goal c.loop-cover.cover c.extend.new.cover more.0 more.1 more.2

pub loop-cover-preserved : goal.loop-cover-preserved
loop-cover-preserved g c =
    let f = g.O.Oracle.framework c.args.oracle.now in
    let old = c.loop-cover.cover in
    let new = c.extend.new.cover in
    let inv = c.loop-cover.invariant in
    let log = g.O.Oracle.log c.extend.new.oracle in
    let found = then_found g.met.O.Oracle.joins c.in-Set.is inv.ran c.in_ok-step.ensures.ran in
    let more = extended_of f _ log c.args.goal old new c.in_ok-counter-in-Set.field-0 found.framework c.in-None.is
    c.in_ok-counter-in-Set.ensures.extends in
    let cover = cover_grown f _ _ _ c.args.goal old c.in_ok-step.ensures.ran.run.grows inv.cover in
    let later = cover_grown f _ _ log c.args.goal old c.in_ok-counter-in-Set.ensures.ran.run.grows cover in
    record {
      cover = cover_extended f log c.args.goal old new more.0 more.1 later more.2;
      ran = ran_then g.met.O.Oracle.joins (one_more old.asks new.asks more.1 more.2.asks) found
          c.in_ok-counter-in-Set.ensures.ran;
    }
