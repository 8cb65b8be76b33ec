use Rattle.std.proofs.Common.{◌<◌, List, length, false, subst, sym}
use Rattle.plain_lits.specs.declared.lit.Lit.{Lit}
use Rattle.conflict_learn.proofs.Descending.{reached, reach_none, item_false, item_at}
use Rattle.conflict_learn.proofs.workspace.Workspace.reach.Goals as goal

abbrev none : Lit
none = record { var = 0; positive = false }

pub position-requires : goal.position-requires
position-requires c =
    item_false c.args.search.now.lits c.args.self.now.clause.items c.as_slice-lit-items.result.now
    c.loop-lit.lit-index none c.not.result c.as_slice-lit-items.ensures.value c.requires c.loop-lit-test.true
    c.not.ensures

pub higher-reach-requires : goal.higher-reach-requires
higher-reach-requires c =
    let at = item_at c.args.search.now.lits c.as_slice-lit-items.result.now c.loop-lit.lit-index c.position.result none
    c.not.result c.not.ensures c.position.ensures.position in
    subst (λ (xs : List Lit). c.position.result < length xs) (sym c.lits-count.ensures.lits) at.within

pub loop-lit-init : goal.loop-lit-init
loop-lit-init c = reach_none c.args.search.now.lits c.args.self.now.clause.items

pub loop-lit-preserved : goal.loop-lit-preserved
loop-lit-preserved c =
    reached c.args.search.now.lits c.args.self.now.clause.items c.as_slice-lit-items.result.now c.loop-lit.lit-index
    c.loop-lit.reach c.position.result c.higher-reach.result none c.as_slice-lit-items.ensures.value
    c.loop-lit-test.true
    (item_at c.args.search.now.lits c.as_slice-lit-items.result.now c.loop-lit.lit-index c.position.result none
    c.not.result c.not.ensures c.position.ensures.position)
    c.loop-lit.invariant c.higher-reach.ensures.first c.higher-reach.ensures.second c.higher-reach.ensures.one_of
