use Rattle.std.proofs.Common.{arith, refl, subst, sym, ◌∙◌}
use Rattle.plain_lits.specs.Checking.{HasRoomFor}
use Rattle.hinted_log.proofs.Proofs.{used_hints}
use Rattle.refutation_logs.specs.Variables.{StandsFor}
use Rattle.refutation_logs.proofs.Loggings.{clause_room, clauses_room, derived_added, no_fewer}
use Rattle.refutation_logs.proofs.Standing.{never_rejected}
use Rattle.refutation_logs.proofs.steps.add_derived.Goals as goal

pub hints_used-used-requires-clause-clause_room : goal.hints_used-used-requires-clause-clause_room
hints_used-used-requires-clause-clause_room c =
    subst (λ ls. HasRoomFor c.make_room.new.trail.vars ls) (sym c.as_slice-lits.ensures.value)
    (clause_room c.number.new.atoms c.args.literals.now c.number.new.lits.items c.make_room.new.trail.vars
    c.in_ok-number.ensures.stands c.in_ok-make_room.ensures.room)

pub hints_used-used-requires-clause-room : goal.hints_used-used-requires-clause-room
hints_used-used-requires-clause-room c =
    let more = no_fewer c.args.table.now.atoms c.number.new.atoms c.args.literals.now
    c.in_ok-number.ensures.appearance in
    let room = c.in_ok-make_room.ensures.room in
    clauses_room c.args.table.now.atoms c.requires.shown.clauses c.args.table.now.clauses c.make_room.new.trail.vars
    c.requires.shown.standing (omega (arith, more, room))

pub hints_used-used-requires-clause-taken : goal.hints_used-used-requires-clause-taken
hints_used-used-requires-clause-taken c = λ place h.
    never_rejected _ c.number.new.atoms c.args.table.now.clauses c.args.literals.now c.as_slice-lits.result.now
    c.args.hints.now c.as_slice-steps.result.now place c.make_room.ensures.different c.in_ok-number.ensures.appearance
    c.requires.shown
    (subst (λ x. StandsFor c.number.new.atoms c.args.literals.now x) (sym c.as_slice-lits.ensures.value)
    c.in_ok-number.ensures.stands) (c.as_slice-steps.ensures.value ∙ c.in_ok-name.ensures) h

pub slice_bounds-kept-end : goal.slice_bounds-kept-end
slice_bounds-kept-end c = used_hints _ _ _ c.hints_used-used.result c.hints_used-used.ensures.taken

pub returns : goal.returns
returns c =
    derived_added _ _ _ c.as_slice-steps.result.now _ _ _ _ _ c.as_slice-lits.result.now _ c.hints_used-used.result
    c.make_room.ensures.different
    (c.as_slice-packed.ensures.value ∙ c.in_ok-number.ensures.packed ∙ sym c.as_slice-lits.ensures.value)
    c.in_ok-number.ensures.appearance
    (subst (λ x. StandsFor c.number.new.atoms c.args.literals.now x) (sym c.as_slice-lits.ensures.value)
    c.in_ok-number.ensures.stands) (c.as_slice-steps.ensures.value ∙ c.in_ok-name.ensures) refl
    c.hints_used-used.ensures.taken c.in_ok-push.ensures.ok c.in_ok-push-2.ensures.step c.hints_used-used.ensures.idle
    c.in_ok-push-2.ensures.count
