use Rattle.std.proofs.Common.{ap}
use Rattle.sat_core.specs.Solving.{SolverState}
use Rattle.atom_solver.specs.Lifted.{state_over}
use Rattle.atom_solver.proofs.Deriving.{room_stays, search_stays}
use Rattle.atom_solver.proofs.Nearby.{looked_answer, looked_learns, looked_run}
use Rattle.atom_solver.proofs.Running.{whole_after}
use Rattle.atom_solver.proofs.parts.SolverParts.refute_assumed.Goals as goal

pub refute-found-requires : goal.refute-found-requires
refute-found-requires c = rw c.as_slice.ensures.value c.requires.plain

pub returns-clause-whole : goal.returns-clause-whole
returns-clause-whole c = whole_after _ _ _ _ c.requires.whole c.refute-found.ensures.derives

pub returns-clause-none : goal.returns-clause-none
returns-clause-none c = λ e.
    let p = c.args.self.now in
    ap (λ (s : SolverState). state_over p.table s p.origins.items p.sides.kept p.pending)
    (c.refute-found.ensures.none e)

pub returns-clause-answer : goal.returns-clause-answer
returns-clause-answer c = λ f goals near guarded.
    let p = c.args.self.now in
    let derives = c.refute-found.ensures.derives in
    let room = room_stays _ p.solver c.refute-found.new.self c.requires.whole.room derives in
    let after = search_stays p.table p.solver c.refute-found.new.self p.origins.items p.sides.kept
    c.len-different.ensures.different room c.log-2.ensures.form.log_form c.requires.whole.marked derives f guarded in
    looked_answer p.table p.solver c.refute-found.new.self p.origins.items p.sides.kept
    c.len-different.ensures.different room c.log-2.ensures.form.log_form c.requires.whole.marked derives
    c.log.ensures.form.named p.assumed.items f goals near after.guards c.refute-found.result
    (rw c.as_slice.ensures.value at c.refute-found.ensures.refuted)

pub returns-clause-run : goal.returns-clause-run
returns-clause-run c = λ f units.
    let p = c.args.self.now in
    let derives = c.refute-found.ensures.derives in
    looked_run p.table p.solver c.refute-found.new.self p.origins.items p.sides.kept
    c.len-different.ensures.different (room_stays _ p.solver c.refute-found.new.self c.requires.whole.room derives)
    c.log-2.ensures.form.log_form c.requires.whole.marked derives
    c.log.ensures.form.named p.assumed.items f p.pending units c.refute-found.result
    (rw c.as_slice.ensures.value at c.refute-found.ensures.refuted) c.refute-found.ensures.none

pub returns-clause-learns : goal.returns-clause-learns
returns-clause-learns c =
    let p = c.args.self.now in
    let derives = c.refute-found.ensures.derives in
    looked_learns p.table p.solver c.refute-found.new.self p.origins.items p.sides.kept
    c.len-different.ensures.different (room_stays _ p.solver c.refute-found.new.self c.requires.whole.room derives)
    c.log-2.ensures.form.log_form c.requires.whole.marked derives
    c.log.ensures.form.named p.assumed.items (record { limit = 0; used = 0 }) c.refute-found.result
    (rw c.as_slice.ensures.value at c.refute-found.ensures.refuted) c.refute-found.ensures.none

pub returns-clause-log : goal.returns-clause-log
returns-clause-log c =
    let p = c.args.self.now in
    let derives = c.refute-found.ensures.derives in
    search_stays p.table p.solver c.refute-found.new.self p.origins.items p.sides.kept
    c.len-different.ensures.different (room_stays _ p.solver c.refute-found.new.self c.requires.whole.room derives)
    c.log-2.ensures.form.log_form c.requires.whole.marked derives
