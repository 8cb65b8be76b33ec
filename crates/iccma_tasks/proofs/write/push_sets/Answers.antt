use Rattle.iccma_tasks.proofs.Writing.{lines_more, rises_more}
use Rattle.iccma_tasks.proofs.write.push_sets.Goals as goal

pub loop-set-preserved : goal.loop-set-preserved
loop-set-preserved c = record {
  text = lines_more _ _ _ _ _ _ c.loop-set-test.true c.set-item.is c.loop-set.invariant.text
      c.in_ok-push_set.ensures.text;
  rises = rises_more _ _ _ c.loop-set-test.true c.set-item.is c.in_ok-push_set.ensures.rises
      c.loop-set.invariant.rises;
}
