use Rattle.std.proofs.Common.{◌∙◌, length, ap, arith}
use Rattle.sat_core.proofs.Running.{begins, resting_stays}
use Rattle.sat_core.proofs.Holding.{held_on, held_same}
use Rattle.sat_core.proofs.Fronting.{on_err}
use Rattle.sat_core.proofs.cdcl.Cdcl.begin.Goals as goal

pub give_up_false-requires : goal.give_up_false-requires
give_up_false-requires c =
    let ready = c.in_ok-keep_front.ensures.ready in
    let one = ready.ready.one in
    record {
      ready = record {
        held = held_on _ _ _ _ _ _ c.propagate.ensures.on ready.held;
        ready = record {
          fronted = c.propagate.ensures.fronted _ (omega (arith, one)) ready.ready.fronted;
          one = ap length c.propagate.ensures.starts ∙ one;
          part = ready.ready.part;
        };
      };
    }

pub returns-in_err-assume_block-clause-rest : goal.returns-in_err-assume_block-clause-rest
returns-in_err-assume_block-clause-rest c =
    let stays = c.in_err-assume_block.ensures.err in
    let ready = c.in_ok-give_up_false.ensures.ready in
    let one = ready.ready.one in
    on_err c.from_residual-in_err-assume_block.result _ (record {
      held = held_same _ _ _ _ _ _ stays.clauses stays.assigned.vars ready.held;
      resting = resting_stays _ _ _ c.vars-form.ensures.form stays (record {
        fronted = ready.ready.fronted;
        few = omega (arith, one);
      });
    })

pub returns-clause-kept : goal.returns-clause-kept
returns-clause-kept c =
    let gains = c.in_ok-assume_block.ensures.ok in
    let ready = c.in_ok-give_up_false.ensures.ready in
    record {
      held = held_same _ _ _ _ _ _ gains.clauses gains.vars ready.held;
      fronted = (begins _ _ _ _ c.vars-form.ensures.form ready.ready gains).fronted;
    }

pub returns-clause-run : goal.returns-clause-run
returns-clause-run c =
    begins _ _ _ _ c.vars-form.ensures.form c.in_ok-give_up_false.ensures.ready.ready c.in_ok-assume_block.ensures.ok
