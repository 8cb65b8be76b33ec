use Rattle.std.proofs.Common.{◌<◌, List, length, ap, arith, sym, subst, ◌∙◌}
use Rattle.sleeping_clauses.specs.declared.sleepers.Sleeper.{Sleeper}
use Rattle.sat_core.proofs.Fronting.{on_ok}
use Rattle.sat_core.proofs.Resolving.{kept_of, kept_either}
use Rattle.sat_core.proofs.Running.{plain_assumptions}
use Rattle.sat_core.proofs.cdcl.Cdcl.wake.Goals as goal

pub rouse-requires-clause-within : goal.rouse-requires-clause-within
rouse-requires-clause-within c =
    subst (λ (xs : List Sleeper). c.args.index < length xs) (sym c.give_up_front.ensures.asleep) c.requires.within

pub begin-requires-clause-plain : goal.begin-requires-clause-plain
begin-requires-clause-plain c =
    plain_assumptions c.args.self.now.front.items c.args.self.now.decisions.search c.args.assumptions.now
    c.vars-form.ensures.form c.requires.run

pub returns-in_err-rouse-clause-kept : goal.returns-in_err-rouse-clause-kept
returns-in_err-rouse-clause-kept c = kept_of _ c.in_err-rouse.ensures.rest

pub returns-in_err-rouse-clause-state : goal.returns-in_err-rouse-clause-state
returns-in_err-rouse-clause-state c = c.in_err-rouse.ensures.state ∙ c.give_up_front.ensures.state

pub returns-clause-kept : goal.returns-clause-kept
returns-clause-kept c = kept_either c.begin.result _ c.begin.ensures.kept c.begin.ensures.rest

pub returns-clause-state : goal.returns-clause-state
returns-clause-state c = c.begin.ensures.state ∙ (c.in_ok-rouse.ensures.state ∙ c.give_up_front.ensures.state)

pub returns-clause-fewer : goal.returns-clause-fewer
returns-clause-fewer c =
    let lt = c.in_ok-rouse.ensures.fewer in
    let a = ap (λ (xs : List Sleeper). length xs) c.begin.ensures.asleep in
    let b = ap (λ (xs : List Sleeper). length xs) c.give_up_front.ensures.asleep in
    on_ok c.begin.result _ (omega (arith, lt, a, b))
