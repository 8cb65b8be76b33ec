use Rattle.std.proofs.Common.{sym, subst}
use Rattle.std.specs.Prelude.{Contains}
use Rattle.std.proofs.lemmas.List.Elements.{Contains-get_or}
use Rattle.sleeping_clauses.proofs.Falsifying.{rarer_kept}
use Rattle.sleeping_clauses.proofs.sleepers.rarest.Goals as goal

pub loop-packed-init : goal.loop-packed-init
loop-packed-init c = tt

pub loop-packed-preserved : goal.loop-packed-preserved
loop-packed-preserved c =
    let i = c.loop-packed.packed-index in
    rarer_kept c.args.clause.now c.loop-packed.found c.rarer-found.result c.packed-item.result c.loop-packed.invariant
    (subst (Contains c.args.clause.now) (sym c.packed-item.is)
    (Contains-get_or c.args.clause.now i c.packed-item.result c.loop-packed-test.true)) c.rarer-found.ensures
