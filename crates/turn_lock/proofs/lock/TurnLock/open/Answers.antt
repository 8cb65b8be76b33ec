use Rattle.std.proofs.Common.{◌+◌, ◌∙◌, sym, subst}
use Rattle.turn_lock.specs.Seats.{AreFresh}
use Rattle.turn_lock.proofs.ClosingLaws.{more_fresh}
use Rattle.turn_lock.proofs.lock.TurnLock.open.Goals as goal

-- src/opening.rt:105:9
pub loop-before-preserved : goal.loop-before-preserved
loop-before-preserved g c =
    let old = c.loop-before.invariant in
    let kept = c.new_seat.ensures.same in (
      (kept.0.0 ∙ old.0.0, kept.0.1 ∙ old.0.1),
      kept.1 ∙ old.1,
      subst (AreFresh g.V.Turned.opening c.in_ok-lock.lock (c.loop-before.before + 1)) (sym c.in_ok-push.ensures.items)
          (more_fresh g.V.Turned.opening c.in_ok-lock.lock c.loop-before.before c.loop-before.seats.items c.new_seat.result old.2 c.new_seat.ensures.fresh c.new_seat.ensures.number),
    )
