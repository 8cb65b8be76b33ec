use Rattle.std.proofs.Common.{false, refl, get_or, arith}
use Rattle.plain_lits.specs.declared.lit.Lit.{Lit}
use Rattle.conflict_learn.proofs.Descending.{left_next, left_clear, item_false, item_at}
use Rattle.conflict_learn.proofs.walk.unmark.Goals as goal

abbrev none : Lit
none = record { var = 0; positive = false }

pub position-at-requires : goal.position-at-requires
position-at-requires c =
    item_false c.args.search.now.lits c.args.clause.now c.args.clause.now c.loop-lit.lit-index none c.not.result refl
    c.requires.falsified c.loop-lit-test.true c.not.ensures

pub index_mut-requires : goal.index_mut-requires
index_mut-requires c =
    let at = item_at c.args.search.now.lits c.args.clause.now c.loop-lit.lit-index c.position-at.result none
    c.not.result c.not.ensures c.position-at.ensures.position in
    let within = at.within in
    let long = c.loop-lit.invariant.long in
    let fits = c.loop-lit.marks.ok in
    omega (arith, within, long, fits.0)

pub loop-lit-preserved : goal.loop-lit-preserved
loop-lit-preserved c =
    left_next c.args.search.now.lits c.args.clause.now c.loop-lit.marks.items c.loop-lit.lit-index
    c.position-at.result (get_or c.args.clause.now c.loop-lit.lit-index none) none
    c.position-at.ensures.form.apart c.loop-lit-test.true refl
    (item_at c.args.search.now.lits c.args.clause.now c.loop-lit.lit-index c.position-at.result none
    c.not.result c.not.ensures c.position-at.ensures.position)
    c.loop-lit.invariant

pub returns : goal.returns
returns c =
    left_clear c.args.search.now.lits c.args.clause.now c.loop-lit.marks.items c.loop-lit.lit-index
    c.loop-lit-test.false
    c.loop-lit.invariant
