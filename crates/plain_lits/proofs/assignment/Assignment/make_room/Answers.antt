use Rattle.std.proofs.Common.{rules, ◌≤◌, length, arith}
use Rattle.plain_lits.specs.TrailArrays.{AreAssigned}
use Rattle.plain_lits.proofs.TrailLemmas.{longer_positions, longer_values}
use Rattle.plain_lits.proofs.assignment.Assignment.make_room.Goals as goal

pub invariant_of-self-in_err-resize-2 : goal.invariant_of-self-in_err-resize-2
invariant_of-self-in_err-resize-2 c =
    let s = c.self.inside in
    record {
      assigned = rw (c.reserve.ensures.items, c.in_err-resize-2.ensures.items) (
          longer_positions s.trail.items s.values.items s.positions.items c.resize.new.self.items c.args.vars _
          c.self.invariant.assigned
          (omega arith) (omega arith) c.in_ok-resize.ensures.items
          );
      fits = search rules;
    }

pub invariant_of-self-2 : goal.invariant_of-self-2
invariant_of-self-2 c =
    let s = c.self.inside in
    let more : length s.values.items ≤ c.args.vars = omega arith in
    let h : AreAssigned s.trail.items s.values.items c.resize.new.self.items =
    longer_positions s.trail.items s.values.items s.positions.items c.resize.new.self.items c.args.vars _
    c.self.invariant.assigned more (omega arith) c.in_ok-resize.ensures.items in
    record {
      assigned = rw c.reserve.ensures.items (
          longer_values s.trail.items s.values.items c.resize-2.new.self.items c.resize.new.self.items c.args.vars _ h
          more (omega (arith, c.in_ok-resize.ensures.len)) (omega arith) c.in_ok-resize-2.ensures.items
          );
      fits = search rules;
    }
