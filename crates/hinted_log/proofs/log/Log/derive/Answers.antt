use Rattle.std.proofs.Common.{take, ◌∙◌, sym}
use Rattle.hinted_log.specs.Logs.{log_of, derived_step}
use Rattle.hinted_log.proofs.Proofs.{stored_kept, stored_more, IsGiven-derived, not_so, used_hints}
use Rattle.hinted_log.proofs.Following.{taken_from_hints}
use Rattle.hinted_log.proofs.log.Log.derive.Goals as goal

pub invariant_of-self : goal.invariant_of-self
invariant_of-self c =
    let s = c.self.inside in
    stored_kept (log_of s.limit s.steps) s.trail.lits _ s.trail.vars _ c.self.invariant c.make_room.ensures.lits
    c.make_room.ensures.more

pub check-requires-clause-clause_room : goal.check-requires-clause-clause_room
check-requires-clause-clause_room c = rw (c.as_slice-2.ensures.lits, ← c.as_slice.ensures.lits)
    c.in_ok-make_room.ensures.ok

pub check-requires-clause-room : goal.check-requires-clause-room
check-requires-clause-room c =
    let s = c.self.inside in
    let kept = stored_kept (log_of s.limit s.steps) s.trail.lits _ s.trail.vars _ c.self.invariant
    c.make_room.ensures.lits c.make_room.ensures.more in
    rw c.clauses.ensures kept.room

pub invariant_of-self-in-Err : goal.invariant_of-self-in-Err
invariant_of-self-in-Err c =
    let s = c.self.inside in
    stored_kept (log_of s.limit s.steps) s.trail.lits _ s.trail.vars _ c.self.invariant (c.check.ensures.lits
    ∙ sym c.self.invariant.clear)
    (rw c.check.ensures.vars c.make_room.ensures.more)

pub pack_into-requires : goal.pack_into-requires
pack_into-requires c = rw (c.as_slice-in-Ok.ensures.lits, ← c.as_slice.ensures.lits) c.in_ok-make_room.ensures.packable

pub invariant_of-self-in_err-pack_into-in-Ok : goal.invariant_of-self-in_err-pack_into-in-Ok
invariant_of-self-in_err-pack_into-in-Ok c =
    let s = c.self.inside in
    stored_kept (log_of s.limit s.steps) s.trail.lits _ s.trail.vars _ c.self.invariant (c.check.ensures.lits
    ∙ sym c.self.invariant.clear)
    (rw c.check.ensures.vars c.make_room.ensures.more)

pub slice_bounds-push-end : goal.slice_bounds-push-end
slice_bounds-push-end c = used_hints _ _ _ c.in-Ok.used c.in-Ok.ensures.outcome

pub invariant_of-self-in_err-push-in-Ok : goal.invariant_of-self-in_err-push-in-Ok
invariant_of-self-in_err-push-in-Ok c =
    let s = c.self.inside in
    rw c.in_err-push-in-Ok.ensures.err (stored_kept (log_of s.limit s.steps) s.trail.lits _ s.trail.vars _
    c.self.invariant (c.check.ensures.lits ∙ sym c.self.invariant.clear)
    (rw c.check.ensures.vars c.make_room.ensures.more))

pub invariant_of-self-in-Ok : goal.invariant_of-self-in-Ok
invariant_of-self-in-Ok c =
    let s = c.self.inside in
    let full = rw (← c.self.view_is) at c.is_full.ensures.full in
    stored_more s.limit s.steps c.push.new.self (derived_step c.args.clause (take c.in-Ok.used c.args.hints.now))
    s.trail.lits _
    s.trail.vars _ c.self.invariant (c.check.ensures.lits ∙ sym c.self.invariant.clear)
    (rw c.check.ensures.vars c.make_room.ensures.more)
    (not_so _ _ full c.if-is_full.false)
    (IsGiven-derived s.steps c.clauses.result.now c.args.clause c.args.hints.now c.in-Ok.used c.clauses.ensures
    (rw c.as_slice-2.ensures.lits at c.in-Ok.ensures.outcome))
    (rw (c.check.ensures.vars, ← c.as_slice.ensures.lits) c.in_ok-make_room.ensures.ok)
    (rw (
      c.as_slice-in-Ok-2.ensures.value,
      c.in_ok-pack_into-in-Ok.ensures,
      c.as_slice-in-Ok.ensures.lits,
    ) at c.in_ok-push-in-Ok.ensures.ok)

pub returns-clause-follows : goal.returns-clause-follows
returns-clause-follows c =
    rw (← c.self.view_is) (
    taken_from_hints c.self.inside.steps c.args.clause c.args.hints.now c.in-Ok.used
    (rw (c.as_slice-2.ensures.lits, c.clauses.ensures) at c.in-Ok.ensures.outcome)
    )
