use Rattle.std.proofs.Common.{◌≡◌, sym, subst}
use Rattle.std.specs.Prelude.{Option, Some}
use Rattle.plain_lits.specs.declared.halt.Halt.{Halt}
use Rattle.plain_lits.specs.declared.halt.Halt.TheVariants.{Memory, Spent}
use Rattle.oracle_face.specs.Growing.{HasRun, NoSide, UnlessMemory}
use Rattle.oracle_face.specs.Logs.{OracleLog}
use Rattle.session_log.specs.Steps.{LearnsClauses}
use Rattle.atom_solver.specs.States.{IsGuardedLog}
use Rattle.atom_solver.specs.Lifted.{log_over}
use Rattle.atom_solver.proofs.Deriving.{room_stays, search_stays}
use Rattle.atom_solver.proofs.Running.{handed_on, handed_on_ending, halted_no_loop, not_spent, ok_not_memory}
use Rattle.atom_solver.proofs.Running.{run_memory, found_run, found_answer, halted_run, whole_after, log_kept}
use Rattle.atom_solver.proofs.Running.{whole_kept}
use Rattle.atom_solver.proofs.Worth.{found_learns, halted_learns}
use Rattle.atom_solver.proofs.parts.SolverParts.search_assumed.Goals as goal

pub solve-end-requires : goal.solve-end-requires
solve-end-requires c = rw c.as_slice.ensures.value c.requires.plain

pub returns-in_err-found-in-Ok-clause-whole : goal.returns-in_err-found-in-Ok-clause-whole
returns-in_err-found-in-Ok-clause-whole c =
    let derives = rw c.reset_phases.ensures at c.solve-end.ensures.derives in
    whole_after _ _ _ _ c.requires.whole derives

pub returns-in_err-found-in-Ok-clause-run : goal.returns-in_err-found-in-Ok-clause-run
returns-in_err-found-in-Ok-clause-run c = λ f goals are.
    let derives = rw c.reset_phases.ensures at c.solve-end.ensures.derives in
    let p = c.args.self.now in
    handed_on_ending f (log_over p.table p.solver p.origins.items p.sides.kept)
    (log_over p.table c.solve-end.new.self p.origins.items p.sides.kept) p.pending c.args.budget.now
    c.solve-end.new.budget c.from_residual.result c.from_residual.ensures
    (λ most. run_memory p.table p.solver c.solve-end.new.self p.origins.items p.sides.kept f p.pending
    c.args.budget.now c.solve-end.new.budget most derives.keeps c.solve-end.ensures.limit)

pub returns-in_err-found-in-Ok-clause-log : goal.returns-in_err-found-in-Ok-clause-log
returns-in_err-found-in-Ok-clause-log c =
    let derives = rw c.reset_phases.ensures at c.solve-end.ensures.derives in
    let p = c.args.self.now in
    search_stays p.table p.solver c.solve-end.new.self p.origins.items p.sides.kept
    c.len-different.ensures.different
    (room_stays _ p.solver c.solve-end.new.self c.requires.whole.room derives)
    c.log-2.ensures.form.log_form c.requires.whole.marked derives

pub returns-in_ok-found-in-Ok-clause-whole : goal.returns-in_ok-found-in-Ok-clause-whole
returns-in_ok-found-in-Ok-clause-whole c =
    let derives = rw c.reset_phases.ensures at c.solve-end.ensures.derives in
    whole_after _ _ _ _ c.requires.whole derives

pub returns-in_ok-found-in-Ok-clause-answer : goal.returns-in_ok-found-in-Ok-clause-answer
returns-in_ok-found-in-Ok-clause-answer c = λ f goals are guarded.
    let derives = rw c.reset_phases.ensures at c.solve-end.ensures.derives in
    let p = c.args.self.now in
    let room = room_stays _ p.solver c.solve-end.new.self c.requires.whole.room derives in
    let after = search_stays p.table p.solver c.solve-end.new.self p.origins.items p.sides.kept
    c.len-different.ensures.different room c.log-2.ensures.form.log_form c.requires.whole.marked
    derives f guarded in
    let named = (rw c.reset_phases.ensures at c.log.ensures.form).named in
    let searched = rw (c.as_slice.ensures.value, c.reset_phases.ensures) at c.in-Ok.ensures.searched in
    found_answer p.table p.solver c.solve-end.new.self p.origins.items p.sides.kept f goals p.assumed.items
    c.len-different.ensures.different room c.requires.whole.marked are named
    derives.keeps c.args.budget.now c.solve-end.new.budget c.solve-end.ensures.limit
    c.in-Ok.solved c.in_ok-found-in-Ok.found c.in_ok-found-in-Ok.ensures
    (searched (ok_not_memory c.in-Ok.solved)) after.guards

pub returns-in_ok-found-in-Ok-clause-run : goal.returns-in_ok-found-in-Ok-clause-run
returns-in_ok-found-in-Ok-clause-run c = λ f goals are.
    let derives = rw c.reset_phases.ensures at c.solve-end.ensures.derives in
    let p = c.args.self.now in
    let room = room_stays _ p.solver c.solve-end.new.self c.requires.whole.room derives in
    let named = (rw c.reset_phases.ensures at c.log.ensures.form).named in
    let searched = rw (c.as_slice.ensures.value, c.reset_phases.ensures) at c.in-Ok.ensures.searched in
    found_run p.table p.solver c.solve-end.new.self p.origins.items p.sides.kept f goals p.assumed.items
    c.len-different.ensures.different room c.requires.whole.marked are named
    derives.keeps c.args.budget.now c.solve-end.new.budget c.solve-end.ensures.limit
    c.in-Ok.solved c.in_ok-found-in-Ok.found p.pending c.in_ok-found-in-Ok.ensures
    (searched (ok_not_memory c.in-Ok.solved))

pub returns-in_ok-found-in-Ok-clause-log : goal.returns-in_ok-found-in-Ok-clause-log
returns-in_ok-found-in-Ok-clause-log c =
    let derives = rw c.reset_phases.ensures at c.solve-end.ensures.derives in
    let p = c.args.self.now in
    search_stays p.table p.solver c.solve-end.new.self p.origins.items p.sides.kept
    c.len-different.ensures.different
    (room_stays _ p.solver c.solve-end.new.self c.requires.whole.room derives)
    c.log-2.ensures.form.log_form c.requires.whole.marked derives

pub returns-in_err-keep_in_hand-in-Err-clause-whole : goal.returns-in_err-keep_in_hand-in-Err-clause-whole
returns-in_err-keep_in_hand-in-Err-clause-whole c =
    let derives = rw c.reset_phases.ensures at c.solve-end.ensures.derives in
    whole_kept _ c.keep_in_hand.new.self c.keep_in_hand.ensures.rest
    (whole_after _ _ _ _ c.requires.whole derives)

pub returns-in_err-keep_in_hand-in-Err-clause-run : goal.returns-in_err-keep_in_hand-in-Err-clause-run
returns-in_err-keep_in_hand-in-Err-clause-run c = λ f goals are.
    let derives = rw c.reset_phases.ensures at c.solve-end.ensures.derives in
    let p = c.args.self.now in
    let q = c.keep_in_hand.new.self in
    let same = log_kept _ q c.keep_in_hand.ensures.rest in
    handed_on_ending f (log_over p.table p.solver p.origins.items p.sides.kept)
    (log_over q.table q.solver q.origins.items q.sides.kept) q.pending c.args.budget.now
    c.solve-end.new.budget c.from_residual-in_err-keep_in_hand-in-Err.result
    c.from_residual-in_err-keep_in_hand-in-Err.ensures
    (λ most. subst (λ (g : OracleLog). HasRun NoSide most f
    (log_over p.table p.solver p.origins.items p.sides.kept) g q.pending c.args.budget.now c.solve-end.new.budget
    (Some Memory)) (sym same)
    (run_memory p.table p.solver c.solve-end.new.self p.origins.items p.sides.kept f q.pending
    c.args.budget.now c.solve-end.new.budget most derives.keeps c.solve-end.ensures.limit))

pub returns-in_err-keep_in_hand-in-Err-clause-log : goal.returns-in_err-keep_in_hand-in-Err-clause-log
returns-in_err-keep_in_hand-in-Err-clause-log c = λ f guarded.
    let derives = rw c.reset_phases.ensures at c.solve-end.ensures.derives in
    let p = c.args.self.now in
    let same = log_kept _ c.keep_in_hand.new.self c.keep_in_hand.ensures.rest in
    subst (λ (g : OracleLog). IsGuardedLog f g) (sym same)
    (search_stays p.table p.solver c.solve-end.new.self p.origins.items p.sides.kept
    c.len-different.ensures.different
    (room_stays _ p.solver c.solve-end.new.self c.requires.whole.room derives)
    c.log-2.ensures.form.log_form c.requires.whole.marked derives f guarded)

pub returns-in_ok-keep_in_hand-in-Err-clause-whole : goal.returns-in_ok-keep_in_hand-in-Err-clause-whole
returns-in_ok-keep_in_hand-in-Err-clause-whole c =
    let derives = rw c.reset_phases.ensures at c.solve-end.ensures.derives in
    whole_kept _ c.keep_in_hand.new.self c.keep_in_hand.ensures.rest
    (whole_after _ _ _ _ c.requires.whole derives)

pub returns-in_ok-keep_in_hand-in-Err-clause-run : goal.returns-in_ok-keep_in_hand-in-Err-clause-run
returns-in_ok-keep_in_hand-in-Err-clause-run c = λ f goals are.
    let derives = rw c.reset_phases.ensures at c.solve-end.ensures.derives in
    let p = c.args.self.now in
    let q = c.keep_in_hand.new.self in
    let same = log_kept _ q c.keep_in_hand.ensures.rest in
    let room = room_stays _ p.solver c.solve-end.new.self c.requires.whole.room derives in
    let named = (rw c.reset_phases.ensures at c.log.ensures.form).named in
    let searched = rw (c.as_slice.ensures.value, c.reset_phases.ensures) at c.in-Err.ensures.searched in
    subst (λ (g : OracleLog). HasRun NoSide 0 f
    (log_over p.table p.solver p.origins.items p.sides.kept) g q.pending c.args.budget.now c.solve-end.new.budget
    (Some c.in-Err.halt)) (sym same)
    (halted_run p.table p.solver c.solve-end.new.self p.origins.items p.sides.kept f goals p.assumed.items
    c.len-different.ensures.different room c.requires.whole.marked are named
    derives.keeps c.args.budget.now c.solve-end.new.budget c.solve-end.ensures.limit
    c.in-Err.halt q.pending searched c.in_ok-keep_in_hand-in-Err.ensures.kept)

pub returns-in_ok-keep_in_hand-in-Err-clause-log : goal.returns-in_ok-keep_in_hand-in-Err-clause-log
returns-in_ok-keep_in_hand-in-Err-clause-log c = λ f guarded.
    let derives = rw c.reset_phases.ensures at c.solve-end.ensures.derives in
    let p = c.args.self.now in
    let same = log_kept _ c.keep_in_hand.new.self c.keep_in_hand.ensures.rest in
    subst (λ (g : OracleLog). IsGuardedLog f g) (sym same)
    (search_stays p.table p.solver c.solve-end.new.self p.origins.items p.sides.kept
    c.len-different.ensures.different
    (room_stays _ p.solver c.solve-end.new.self c.requires.whole.room derives)
    c.log-2.ensures.form.log_form c.requires.whole.marked derives f guarded)

pub returns-in_err-found-in-Ok-clause-learns : goal.returns-in_err-found-in-Ok-clause-learns
returns-in_err-found-in-Ok-clause-learns c =
    let p = c.args.self.now in
    handed_on (λ (halt : Option Halt). UnlessMemory halt
    (LearnsClauses (log_over p.table p.solver p.origins.items p.sides.kept)
    (log_over p.table c.solve-end.new.self p.origins.items p.sides.kept)))
    c.from_residual.result Memory c.from_residual.ensures tt

pub returns-in_ok-found-in-Ok-clause-learns : goal.returns-in_ok-found-in-Ok-clause-learns
returns-in_ok-found-in-Ok-clause-learns c =
    let derives = rw c.reset_phases.ensures at c.solve-end.ensures.derives in
    let p = c.args.self.now in
    let room = room_stays _ p.solver c.solve-end.new.self c.requires.whole.room derives in
    let named = (rw c.reset_phases.ensures at c.log.ensures.form).named in
    let searched = rw (c.as_slice.ensures.value, c.reset_phases.ensures) at c.in-Ok.ensures.searched in
    found_learns p.table p.solver c.solve-end.new.self p.origins.items p.sides.kept c.len-different.ensures.different
    room c.log-2.ensures.form.log_form c.requires.whole.marked derives named p.assumed.items c.args.budget.now
    c.solve-end.new.budget c.in-Ok.solved (searched (ok_not_memory c.in-Ok.solved))

pub returns-in_err-keep_in_hand-in-Err-clause-learns : goal.returns-in_err-keep_in_hand-in-Err-clause-learns
returns-in_err-keep_in_hand-in-Err-clause-learns c =
    let p = c.args.self.now in
    let q = c.keep_in_hand.new.self in
    handed_on (λ (halt : Option Halt). UnlessMemory halt
    (LearnsClauses (log_over p.table p.solver p.origins.items p.sides.kept)
    (log_over q.table q.solver q.origins.items q.sides.kept)))
    c.from_residual-in_err-keep_in_hand-in-Err.result Memory c.from_residual-in_err-keep_in_hand-in-Err.ensures tt

pub returns-in_ok-keep_in_hand-in-Err-clause-learns : goal.returns-in_ok-keep_in_hand-in-Err-clause-learns
returns-in_ok-keep_in_hand-in-Err-clause-learns c =
    let derives = rw c.reset_phases.ensures at c.solve-end.ensures.derives in
    let p = c.args.self.now in
    let q = c.keep_in_hand.new.self in
    let same = log_kept _ q c.keep_in_hand.ensures.rest in
    let room = room_stays _ p.solver c.solve-end.new.self c.requires.whole.room derives in
    let named = (rw c.reset_phases.ensures at c.log.ensures.form).named in
    let searched = rw (c.as_slice.ensures.value, c.reset_phases.ensures) at c.in-Err.ensures.searched in
    subst (λ (g : OracleLog). UnlessMemory (Some c.in-Err.halt)
    (LearnsClauses (log_over p.table p.solver p.origins.items p.sides.kept) g)) (sym same)
    (halted_learns p.table p.solver c.solve-end.new.self p.origins.items p.sides.kept c.len-different.ensures.different
    room c.log-2.ensures.form.log_form c.requires.whole.marked derives named p.assumed.items c.args.budget.now
    c.solve-end.new.budget c.in-Err.halt searched)

pub returns-in_err-found-in-Ok-clause-in_hand : goal.returns-in_err-found-in-Ok-clause-in_hand
returns-in_err-found-in-Ok-clause-in_hand c = λ count e.
    absurd (not_spent c.from_residual.result c.from_residual.ensures count e)

pub returns-in_err-keep_in_hand-in-Err-clause-in_hand : goal.returns-in_err-keep_in_hand-in-Err-clause-in_hand
returns-in_err-keep_in_hand-in-Err-clause-in_hand c = λ count e.
    absurd (not_spent c.from_residual-in_err-keep_in_hand-in-Err.result
    c.from_residual-in_err-keep_in_hand-in-Err.ensures count e)

pub returns-in_ok-keep_in_hand-in-Err-clause-in_hand : goal.returns-in_ok-keep_in_hand-in-Err-clause-in_hand
returns-in_ok-keep_in_hand-in-Err-clause-in_hand c = λ count e.
    let p = c.args.self.now in
    let searched = rw (c.as_slice.ensures.value, c.reset_phases.ensures) at c.in-Err.ensures.searched in
    let halt : c.in-Err.halt ≡ Spent count = cc in
    halted_no_loop p.table p.solver c.solve-end.new.self p.assumed.items c.args.budget.now c.solve-end.new.budget
    c.in-Err.halt c.keep_in_hand.new.self.pending searched c.in_ok-keep_in_hand-in-Err.ensures.kept count halt
