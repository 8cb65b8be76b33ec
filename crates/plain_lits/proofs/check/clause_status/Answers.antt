use Rattle.std.proofs.Common.{sym, ◌∙◌}
use Rattle.plain_lits.proofs.CheckingLemmas.{so_far_none, item_from, item_member, neither_true, status_false, status_unset, status_again, status_two}
use Rattle.plain_lits.proofs.check.clause_status.Goals as goal
use Rattle.plain_lits.proofs.check.clause_status.Goals.{in-False, in-Unset+in-None, in-Unset+in-Some+else-not-same}

pub loop-packed-init : goal.loop-packed-init
loop-packed-init c = so_far_none _

pub returns-in-True : goal.returns-in-True
returns-in-True c =
    let item = item_from c.args.clause.now c.loop-packed.packed-index c.lit-lit.result c.packed-item.result
    c.loop-packed-test.true c.packed-item.is c.lit-lit.ensures.lit in
    neither_true _ _ c.lit-lit.result (item_member _ _ _ item) c.in-True.ensures.value

pub returns-then-not-same : goal.returns-then-not-same
returns-then-not-same c =
    let item = item_from c.args.clause.now c.loop-packed.packed-index c.lit-lit.result c.packed-item.result
    c.loop-packed-test.true c.packed-item.is c.lit-lit.ensures.lit in
    status_two c.args.trail.now.lits c.args.clause.now c.loop-packed.packed-index c.loop-packed.unset c.lit-lit.result
    c.in-Some.first item c.in-Some.is (sym c.eq-same.ensures ∙ c.if-not-same.true) c.in-Unset.ensures.value
    c.loop-packed.invariant

pub loop-packed-preserved : goal.loop-packed-preserved
loop-packed-preserved c =
    let item = item_from c.args.clause.now c.loop-packed.packed-index c.lit-lit.result c.packed-item.result
    c.loop-packed-test.true c.packed-item.is c.lit-lit.ensures.lit in
    elim c.match-value.branch [
      | in-False w ↦ status_false c.args.trail.now.lits c.args.clause.now c.loop-packed.packed-index c.loop-packed.unset
          c.match-value.unset c.lit-lit.result item w.unset-is w.in-False.ensures.value c.loop-packed.invariant
      | in-Unset+in-None w ↦ status_unset c.args.trail.now.lits c.args.clause.now c.loop-packed.packed-index
          c.loop-packed.unset c.match-value.unset c.lit-lit.result item w.in-None.is w.unset-is w.in-Unset.ensures.value
          c.loop-packed.invariant
      | in-Unset+in-Some+else-not-same w ↦ status_again c.args.trail.now.lits c.args.clause.now
          c.loop-packed.packed-index c.loop-packed.unset c.match-value.unset c.lit-lit.result w.in-Some.first item
          w.in-Some.is (w.unset-is ∙ sym w.in-Some.is) (sym w.eq-same.ensures ∙ w.if-not-same.false)
          c.loop-packed.invariant
    ]
