use Rattle.std.proofs.Common.{◌-◌, arith}
use Rattle.certificate_making.proofs.TrimmedLemmas.{trimmed_fits, trimmed_refutes}
use Rattle.certificate_making.proofs.WritingLemmas.{writing_done}
use Rattle.certificate_making.proofs.refute.refutation.Goals as goal

pub returns-clause-refutes : goal.returns-clause-refutes
returns-clause-refutes g c = λ claim refuting.
    trimmed_refutes (g.L.ReadLog.framework c.args.log.now) (g.L.ReadLog.log c.args.log.now) claim c.args.step
    c.args.positions.now c.in_ok-steps.ensures.kept _ c.in_ok-steps.steps refuting
    (writing_done (g.L.ReadLog.framework c.args.log.now) (g.L.ReadLog.log c.args.log.now) c.args.step
    c.args.positions.now _ c.in_ok-steps.steps c.len.ensures.form c.requires c.in_ok-steps.ensures)

pub returns-clause-writable : goal.returns-clause-writable
returns-clause-writable g c = λ claim refuting.
    trimmed_fits (g.L.ReadLog.framework c.args.log.now) (g.L.ReadLog.log c.args.log.now) claim c.args.step
    c.args.positions.now c.in_ok-steps.ensures.kept _ c.in_ok-steps.steps refuting
    (writing_done (g.L.ReadLog.framework c.args.log.now) (g.L.ReadLog.log c.args.log.now) c.args.step
    c.args.positions.now _ c.in_ok-steps.steps c.len.ensures.form c.requires c.in_ok-steps.ensures)
    (record {
      step_fits = omega (arith, c.number.ensures);
      positions_fit = λ n. let fits = c.type_inv.positions (n - 1) in omega (arith, fits);
    })

pub returns-clause-cut : goal.returns-clause-cut
returns-clause-cut g c = record {
  named = c.requires;
  positions = c.args.positions.now;
  kept = c.in_ok-steps.ensures.kept;
  numbers = _;
  trimmed = writing_done (g.L.ReadLog.framework c.args.log.now) (g.L.ReadLog.log c.args.log.now) c.args.step
      c.args.positions.now _ c.in_ok-steps.steps c.len.ensures.form c.requires c.in_ok-steps.ensures;
}
