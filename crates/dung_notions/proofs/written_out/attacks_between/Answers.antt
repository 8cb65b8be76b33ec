use Rattle.std.proofs.lemmas.List.{take_all}
use Rattle.dung_notions.specs.WrittenOut.{IsBetween}
use Rattle.dung_notions.proofs.WrittenOutLemmas.{fitting_none, fitting_more}
use Rattle.dung_notions.proofs.written_out.attacks_between.Goals as goal

pub loop-attack-init : goal.loop-attack-init
loop-attack-init c = rw c.new-found.ensures.items (fitting_none (IsBetween c.args.live.now) c.args.attacks.now)

pub loop-attack-preserved : goal.loop-attack-preserved
loop-attack-preserved c = fitting_more (IsBetween c.args.live.now) c.args.attacks.now c.loop-attack.attack-index
    (0, 0) _ _
    c.loop-attack-test.true c.loop-attack.invariant c.in_ok-add_between.ensures

pub returns : goal.returns
returns c = rw (take_all c.loop-attack.attack-index c.args.attacks.now
    c.loop-attack-test.false) at c.loop-attack.invariant
