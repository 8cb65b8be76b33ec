use Rattle.std.proofs.Common.{◌≡◌, ◌<◌, ◌++◌, ◌∷◌, [], length, rules, sym, subst}
use Rattle.oracle_face.specs.declared.step_source.StepSource.TheVariants.{Hints}
use Rattle.atom_solver.specs.Inner.{IsFilled}
use Rattle.atom_solver.proofs.Giving.{filled_more}
use Rattle.atom_solver.proofs.parts.fill.Goals as goal

pub loop-origins-preserved : goal.loop-origins-preserved
loop-origins-preserved c =
    let old = c.loop-origins.origins.items in
    let pushed : c.push.new.self.items ≡ old ++ Hints ∷ [] = search rules in
    let lt : length old < c.args.steps = search rules in
    subst (λ origins. IsFilled c.args.origins.now.items origins c.args.steps) (sym pushed)
    (filled_more c.args.origins.now.items old c.args.steps c.loop-origins.invariant lt)
