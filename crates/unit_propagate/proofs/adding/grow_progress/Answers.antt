use Rattle.std.proofs.Common.{arith, refl}
use Rattle.unit_propagate.specs.States.{no_progress}
use Rattle.unit_propagate.proofs.Rooms.{longer_same, longer_resized, long_resized}
use Rattle.unit_propagate.proofs.adding.grow_progress.Goals as goal

pub returns : goal.returns
returns c = record {
  kept = longer_resized no_progress _ _ c.args.count _ (omega arith) (omega arith) c.in_ok-resize.ensures.items;
  ok = long_resized no_progress _ _ c.args.count _ (omega arith) (omega arith) c.in_ok-resize.ensures.items;
}

pub returns-in_err-resize-clause-kept : goal.returns-in_err-resize-clause-kept
returns-in_err-resize-clause-kept c = longer_same no_progress _ _ c.in_err-resize.ensures.items

pub returns-then-count-len-clause-kept : goal.returns-then-count-len-clause-kept
returns-then-count-len-clause-kept c = longer_same no_progress _ _ refl
