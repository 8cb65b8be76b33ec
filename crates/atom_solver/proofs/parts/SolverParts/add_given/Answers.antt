use Rattle.std.proofs.Common.{◌≡◌, ◌++◌, ◌∷◌, [], ◌<◌, length, rules, ap, subst, ◌∙◌, ⊎_elim, arith}
use Rattle.std.proofs.lemmas.Bool.{cases_lt}
use Rattle.atom_solver.specs.Inner.{IsFilled}
use Rattle.atom_solver.proofs.Giving.{not_rejected, given_gains, given_whole, filled_whole, ok_not_full, refused}
use Rattle.atom_solver.proofs.parts.SolverParts.add_given.Goals as goal

pub unreachable-requires : goal.unreachable-requires
unreachable-requires c =
    not_rejected c.args.self.now.solver.log c.args.clause c.args.how c.in-Err-Rejected.field-0-0 c.requires.how
    (c.in-Err-Rejected.ensures.rejected c.in-Err-Rejected.field-0-0 (ap refused c.in-Err-Rejected.field-0-is))

pub returns-in-Ok-clause-whole : goal.returns-in-Ok-clause-whole
returns-in-Ok-clause-whole c =
    let p = c.args.self.now in
    let pushed : c.push.new.self.items ≡ c.fill.new.origins.items ++ c.args.origin ∷ [] = search rules in
    let count : c.len-steps.result ≡ length p.solver.log.steps = rw c.log.ensures.log at c.len-steps.ensures.steps in
    let filled = subst (IsFilled p.origins.items c.fill.new.origins.items) count c.fill.ensures.filled in
    given_whole p.table p.solver c.add.new.self c.args.clause c.args.how _ p.origins.items c.fill.new.origins.items
    c.push.new.self.items c.args.origin c.requires.how c.in-Ok.ensures.ok filled (c.in_ok-fill.ensures.ok ∙ count)
    pushed
    c.requires.room c.requires.whole

pub returns-in-Ok-clause-ok : goal.returns-in-Ok-clause-ok
returns-in-Ok-clause-ok c =
    let p = c.args.self.now in
    let pushed : c.push.new.self.items ≡ c.fill.new.origins.items ++ c.args.origin ∷ [] = search rules in
    let count : c.len-steps.result ≡ length p.solver.log.steps = rw c.log.ensures.log at c.len-steps.ensures.steps in
    let filled = subst (IsFilled p.origins.items c.fill.new.origins.items) count c.fill.ensures.filled in
    let within = c.log.ensures.form.log_form.within in
    let room : length p.solver.log.steps < p.solver.log.limit =
    ⊎_elim (λ lt. lt) (λ ge. absurd (ok_not_full _ (c.in-Ok.ensures.full.1 (omega arith))))
    (cases_lt (length p.solver.log.steps) p.solver.log.limit) in
    given_gains p.table p.solver c.add.new.self c.args.clause c.args.how _ p.origins.items c.fill.new.origins.items
    c.push.new.self.items c.args.origin c.requires.how c.in-Ok.ensures.ok c.requires.own filled
    (c.in_ok-fill.ensures.ok ∙ count) pushed p.sides.kept p.pending room

pub returns-in-Err-Memory-clause-whole : goal.returns-in-Err-Memory-clause-whole
returns-in-Err-Memory-clause-whole c =
    let p = c.args.self.now in
    let count : c.len-steps.result ≡ length p.solver.log.steps = rw c.log.ensures.log at c.len-steps.ensures.steps in
    let filled = subst (IsFilled p.origins.items c.fill.new.origins.items) count c.fill.ensures.filled in
    rw c.in-Err-Memory.ensures.refused (filled_whole p.table p.solver p.origins.items c.fill.new.origins.items
    c.requires.whole filled)

pub returns-in-Err-LogFull-clause-whole : goal.returns-in-Err-LogFull-clause-whole
returns-in-Err-LogFull-clause-whole c =
    let p = c.args.self.now in
    let count : c.len-steps.result ≡ length p.solver.log.steps = rw c.log.ensures.log at c.len-steps.ensures.steps in
    let filled = subst (IsFilled p.origins.items c.fill.new.origins.items) count c.fill.ensures.filled in
    rw c.in-Err-LogFull.ensures.refused (filled_whole p.table p.solver p.origins.items c.fill.new.origins.items
    c.requires.whole filled)
