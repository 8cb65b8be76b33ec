use Rattle.std.proofs.Common.{List, subst}
use Rattle.std.specs.Prelude.{Contains}
use Rattle.std.specs.Bool.{OnFalse}
use Rattle.plain_lits.specs.declared.lit.Lit.{Lit}
use Rattle.plain_lits.specs.Literals.{negation}
use Rattle.sleeping_clauses.proofs.sleepers.is_falsified_sleeper.Goals as goal

pub returns-in-False : goal.returns-in-False
returns-in-False c =
    let lits = c.args.trail.now.lits in
    subst
    (λ (part : List Lit). OnFalse c.is_falsified.result ((l : Lit) × Contains part l ×
    (Contains lits (negation l) → ⊥)))
    c.clause.ensures.clause c.is_falsified.ensures.free
