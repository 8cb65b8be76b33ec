use Rattle.std.proofs.Common.{◌≡◌, ◌-◌, arith, length, sym, subst, ◌∙◌}
use Rattle.std.specs.Prelude.{Contains}
use Rattle.std.proofs.lemmas.Bool.{false≢true}
use Rattle.plain_lits.specs.Checking.{HasRoomFor}
use Rattle.hinted_log.specs.Logs.{step_at}
use Rattle.atom_solver.proofs.EntryLemmas.{plain_unused, plain_used}
use Rattle.atom_solver.proofs.Lifting.{room_at}
use Rattle.atom_solver.proofs.Reading.{step_named}
use Rattle.atom_solver.proofs.parts.SolverParts.is_plain.Goals as goal

pub clause-requires : goal.clause-requires
clause-requires c =
    let p = c.args.self.now in
    rw c.log.ensures.log (step_named p.table p.solver p.origins.items c.args.step c.requires.step)

pub asks_nothing-requires : goal.asks_nothing-requires
asks_nothing-requires c =
    let p = c.args.self.now in
    let named = step_named p.table p.solver p.origins.items c.args.step c.requires.step in
    let low = named.from_one in
    let high = named.within in
    let read : c.clause.result.now ≡ (step_at p.solver.log.steps c.args.step).clause =
    rw c.log.ensures.log at c.clause.ensures.clause in
    subst (HasRoomFor (length p.table)) (sym read)
    (room_at (length p.table) p.solver.log.steps (c.args.step - 1) c.requires.whole.room (omega arith))

pub returns-then-has_step : goal.returns-then-has_step
returns-then-has_step c =
    let p = c.args.self.now in
    let read : c.clause.result.now ≡ (step_at p.solver.log.steps c.args.step).clause =
    rw c.log.ensures.log at c.clause.ensures.clause in
    let used = subst (λ xs. Contains xs c.args.step) c.active.ensures.active (c.has_step.ensures.0 c.if-has_step.true)
    in
    plain_used p.table p.solver p.origins.items c.args.step c.requires.step c.asks_nothing.result c.clause.result.now
    used
    read c.asks_nothing.ensures

pub returns-else-has_step : goal.returns-else-has_step
returns-else-has_step c =
    let p = c.args.self.now in
    let unused = λ (there : Contains p.solver.active c.args.step). false≢true (sym c.if-has_step.false
    ∙ c.has_step.ensures.1 (subst (λ xs. Contains xs c.args.step) (sym c.active.ensures.active) there)) in (
      λ yes. absurd (false≢true (sym c.if-has_step.false ∙ yes)),
      λ h. absurd (plain_unused p.table p.solver p.origins.items c.args.step c.requires.step unused h),
    )
