use Rattle.std.proofs.Common.{inr}
use Rattle.edit_rules.specs.Kinds.{framework_of}
use Rattle.framework_solver.proofs.UpdateLemmas.{all_waiting, attack_members, behind, effect_of, followed, left_as}
use Rattle.framework_solver.proofs.solver.FrameworkSolver.follow_attack.Goals as goal

pub lacking_axioms-requires : goal.lacking_axioms-requires
lacking_axioms-requires c =
    let p = c.args.self.now in
    let same = left_as (framework_of p.framework) (framework_of c.apply.new.framework) c.args.effect.now.edit _
    c.in-Ok.ensures.done in
    behind p (framework_of c.apply.new.framework) c.args.effect.now c.requires.whole c.requires.taken same

pub returns-in_err-needed-clause-whole : goal.returns-in_err-needed-clause-whole
returns-in_err-needed-clause-whole c =
    let p = c.args.self.now in
    let same = left_as (framework_of p.framework) (framework_of c.apply.new.framework) c.args.effect.now.edit _
    c.in-Ok.ensures.done in
    all_waiting p c.apply.new.framework _ c.args.effect.now.edit c.requires.whole same
    (attack_members p c.apply.new.framework c.args.effect.now.edit c.requires.whole same c.requires.attack)
    c.new.ensures

pub returns-in_err-needed-clause-stays : goal.returns-in_err-needed-clause-stays
returns-in_err-needed-clause-stays c =
    let p = c.args.self.now in
    inr (left_as (framework_of p.framework) (framework_of c.apply.new.framework) c.args.effect.now.edit _
    c.in-Ok.ensures.done)

pub returns-clause-whole : goal.returns-clause-whole
returns-clause-whole c =
    let p = c.args.self.now in
    let f = framework_of p.framework in
    let same = left_as f (framework_of c.apply.new.framework) c.args.effect.now.edit _ c.in-Ok.ensures.done in
    followed p c.apply.new.framework p.members c.in_ok-needed.needed c.args.effect.now.edit c.requires.whole same
    (attack_members p c.apply.new.framework c.args.effect.now.edit c.requires.whole same c.requires.attack)
    c.in_ok-needed.ensures.needed
    (c.in_ok-needed.ensures.waits f p.solver.log c.requires.whole.numbered
    (effect_of f (framework_of c.apply.new.framework) c.args.effect.now c.requires.taken same)
    c.has_all-had_all.ensures)

pub returns-clause-framework : goal.returns-clause-framework
returns-clause-framework c =
    let p = c.args.self.now in
    left_as (framework_of p.framework) (framework_of c.apply.new.framework) c.args.effect.now.edit _
    c.in-Ok.ensures.done

pub returns-clause-stays : goal.returns-clause-stays
returns-clause-stays c =
    let p = c.args.self.now in
    inr (left_as (framework_of p.framework) (framework_of c.apply.new.framework) c.args.effect.now.edit _
    c.in-Ok.ensures.done)
