use Rattle.std.proofs.Common.{sym, subst}
use Rattle.std.specs.Prelude.{Contains}
use Rattle.std.proofs.lemmas.List.Elements.{Contains-get_or}
use Rattle.sleeping_clauses.proofs.Falsifying.{no_lit}
use Rattle.sleeping_clauses.proofs.pace.levels_of.Goals as goal

pub loop-lit-init : goal.loop-lit-init
loop-lit-init c = tt

pub position-index-requires : goal.position-index-requires
position-index-requires c =
    subst (Contains c.args.search.now.lits) (sym c.not.ensures)
    (c.requires _ (Contains-get_or c.args.clause.now c.loop-lit.lit-index no_lit c.loop-lit-test.true))

pub loop-lit-preserved : goal.loop-lit-preserved
loop-lit-preserved c = tt
