use Rattle.std.proofs.Common.{refl, arith}
use Rattle.unit_propagate.specs.States.{state_of, no_progress}
use Rattle.unit_propagate.proofs.Growing.{IsRoomyFor, kept_roomy, makes_room}
use Rattle.unit_propagate.proofs.Rooms.{longer_same}
use Rattle.clause_watches.proofs.Pairing.{room_same}
use Rattle.unit_propagate.proofs.watch_state.WatchState.make_room.Goals as goal

pub returns : goal.returns
returns c =
    let s = state_of c.args.self.now in
    let kept = c.requires.kept in
    let old_lists = kept.stored.lists_long in
    let old_reasons = kept.reasons_long in
    let old_marks = kept.marks.long in
    let old_vars = c.vars.ensures.vars in
    let h : IsRoomyFor s c.make_room.new.self.lits c.make_room.new.self.starts c.make_room.new.self.vars
    c.grow_lists.new.lists.items c.grow_ids.new.ids.items c.grow_progress.new.progress.items = record {
      new_lits = c.in_ok-make_room.ensures.lits;
      new_starts = c.in_ok-make_room.ensures.starts;
      new_vars = let e = c.in_ok-make_room.ensures.ok in omega (arith, e);
      new_lists = c.grow_lists.ensures.kept;
      new_reasons = c.grow_ids.ensures.kept;
      new_marks = c.grow_progress.ensures.kept;
      lists_long = let e = c.in_ok-make_room.ensures.ok in let long = c.in_ok-grow_lists.ensures.ok in
          omega (arith, e, long, c.if-vars.false);
      reasons_long = let e = c.in_ok-make_room.ensures.ok in let long = c.in_ok-grow_ids.ensures.ok in
          omega (arith, e, long, c.if-vars.false);
      marks_long = let e = c.in_ok-make_room.ensures.ok in let long = c.in_ok-grow_progress.ensures.ok in
          omega (arith, e, long, c.if-vars.false);
    } in
    record {
      kept = kept_roomy s c.make_room.new.self.lits c.make_room.new.self.starts c.make_room.new.self.vars
          c.grow_lists.new.lists.items c.grow_ids.new.ids.items c.grow_progress.new.progress.items kept h;
      room =
          makes_room s c.make_room.new.self.lits c.make_room.new.self.starts c.make_room.new.self.vars
          c.grow_lists.new.lists.items c.grow_ids.new.ids.items c.grow_progress.new.progress.items h;
      ok = let e =
          c.in_ok-make_room.ensures.ok in omega (arith, e);
    }

pub returns-in_err-make_room-clause-kept : goal.returns-in_err-make_room-clause-kept
returns-in_err-make_room-clause-kept c =
    let s = state_of c.args.self.now in
    let kept = c.requires.kept in
    let old_lists = kept.stored.lists_long in
    let old_reasons = kept.reasons_long in
    let old_marks = kept.marks.long in
    let old_vars = c.vars.ensures.vars in
    let h : IsRoomyFor s c.make_room.new.self.lits c.make_room.new.self.starts c.make_room.new.self.vars
    c.grow_lists.new.lists.items c.grow_ids.new.ids.items c.grow_progress.new.progress.items = record {
      new_lits = c.in_err-make_room.ensures.lits;
      new_starts = c.in_err-make_room.ensures.starts;
      new_vars = let e = c.in_err-make_room.ensures.err in omega (arith, e);
      new_lists = c.grow_lists.ensures.kept;
      new_reasons = c.grow_ids.ensures.kept;
      new_marks = c.grow_progress.ensures.kept;
      lists_long = let e = c.in_err-make_room.ensures.err in let long = c.grow_lists.ensures.kept.long in
          omega (arith, e, long, old_lists);
      reasons_long = let e = c.in_err-make_room.ensures.err in let long = c.grow_ids.ensures.kept.long in
          omega (arith, e, long, old_reasons);
      marks_long = let e = c.in_err-make_room.ensures.err in let long = c.grow_progress.ensures.kept.long in
          omega (arith, e, long, old_marks);
    } in
    kept_roomy s c.make_room.new.self.lits c.make_room.new.self.starts c.make_room.new.self.vars
    c.grow_lists.new.lists.items c.grow_ids.new.ids.items c.grow_progress.new.progress.items kept h

pub returns-in_err-make_room-clause-room : goal.returns-in_err-make_room-clause-room
returns-in_err-make_room-clause-room c =
    let s = state_of c.args.self.now in
    let kept = c.requires.kept in
    let old_lists = kept.stored.lists_long in
    let old_reasons = kept.reasons_long in
    let old_marks = kept.marks.long in
    let old_vars = c.vars.ensures.vars in
    let h : IsRoomyFor s c.make_room.new.self.lits c.make_room.new.self.starts c.make_room.new.self.vars
    c.grow_lists.new.lists.items c.grow_ids.new.ids.items c.grow_progress.new.progress.items = record {
      new_lits = c.in_err-make_room.ensures.lits;
      new_starts = c.in_err-make_room.ensures.starts;
      new_vars = let e = c.in_err-make_room.ensures.err in omega (arith, e);
      new_lists = c.grow_lists.ensures.kept;
      new_reasons = c.grow_ids.ensures.kept;
      new_marks = c.grow_progress.ensures.kept;
      lists_long = let e = c.in_err-make_room.ensures.err in let long = c.grow_lists.ensures.kept.long in
          omega (arith, e, long, old_lists);
      reasons_long = let e = c.in_err-make_room.ensures.err in let long = c.grow_ids.ensures.kept.long in
          omega (arith, e, long, old_reasons);
      marks_long = let e = c.in_err-make_room.ensures.err in let long = c.grow_progress.ensures.kept.long in
          omega (arith, e, long, old_marks);
    } in
    makes_room s c.make_room.new.self.lits c.make_room.new.self.starts c.make_room.new.self.vars
    c.grow_lists.new.lists.items c.grow_ids.new.ids.items c.grow_progress.new.progress.items h

pub returns-in_err-grow_progress-clause-kept : goal.returns-in_err-grow_progress-clause-kept
returns-in_err-grow_progress-clause-kept c =
    let s = state_of c.args.self.now in
    let kept = c.requires.kept in
    let old_lists = kept.stored.lists_long in
    let old_reasons = kept.reasons_long in
    let old_marks = kept.marks.long in
    let old_vars = c.vars.ensures.vars in
    let h : IsRoomyFor s s.lits s.starts s.vars c.grow_lists.new.lists.items c.grow_ids.new.ids.items
    c.grow_progress.new.progress.items = record {
      new_lits = refl;
      new_starts = refl;
      new_vars = omega arith;
      new_lists = c.grow_lists.ensures.kept;
      new_reasons = c.grow_ids.ensures.kept;
      new_marks = c.grow_progress.ensures.kept;
      lists_long = let long = c.grow_lists.ensures.kept.long in omega (arith, long, old_lists);
      reasons_long = let long = c.grow_ids.ensures.kept.long in omega (arith, long, old_reasons);
      marks_long = let long = c.grow_progress.ensures.kept.long in omega (arith, long, old_marks);
    } in
    kept_roomy s s.lits s.starts s.vars c.grow_lists.new.lists.items c.grow_ids.new.ids.items
    c.grow_progress.new.progress.items kept h

pub returns-in_err-grow_progress-clause-room : goal.returns-in_err-grow_progress-clause-room
returns-in_err-grow_progress-clause-room c =
    let s = state_of c.args.self.now in
    let kept = c.requires.kept in
    let old_lists = kept.stored.lists_long in
    let old_reasons = kept.reasons_long in
    let old_marks = kept.marks.long in
    let old_vars = c.vars.ensures.vars in
    let h : IsRoomyFor s s.lits s.starts s.vars c.grow_lists.new.lists.items c.grow_ids.new.ids.items
    c.grow_progress.new.progress.items = record {
      new_lits = refl;
      new_starts = refl;
      new_vars = omega arith;
      new_lists = c.grow_lists.ensures.kept;
      new_reasons = c.grow_ids.ensures.kept;
      new_marks = c.grow_progress.ensures.kept;
      lists_long = let long = c.grow_lists.ensures.kept.long in omega (arith, long, old_lists);
      reasons_long = let long = c.grow_ids.ensures.kept.long in omega (arith, long, old_reasons);
      marks_long = let long = c.grow_progress.ensures.kept.long in omega (arith, long, old_marks);
    } in
    makes_room s s.lits s.starts s.vars c.grow_lists.new.lists.items c.grow_ids.new.ids.items
    c.grow_progress.new.progress.items h

pub returns-in_err-grow_ids-clause-kept : goal.returns-in_err-grow_ids-clause-kept
returns-in_err-grow_ids-clause-kept c =
    let s = state_of c.args.self.now in
    let kept = c.requires.kept in
    let old_lists = kept.stored.lists_long in
    let old_reasons = kept.reasons_long in
    let old_marks = kept.marks.long in
    let old_vars = c.vars.ensures.vars in
    let h : IsRoomyFor s s.lits s.starts s.vars c.grow_lists.new.lists.items c.grow_ids.new.ids.items s.progress =
    record {
      new_lits = refl;
      new_starts = refl;
      new_vars = omega arith;
      new_lists = c.grow_lists.ensures.kept;
      new_reasons = c.grow_ids.ensures.kept;
      new_marks = longer_same no_progress s.progress s.progress refl;
      lists_long = let long = c.grow_lists.ensures.kept.long in omega (arith, long, old_lists);
      reasons_long = let long = c.grow_ids.ensures.kept.long in omega (arith, long, old_reasons);
      marks_long = old_marks;
    } in
    kept_roomy s s.lits s.starts s.vars c.grow_lists.new.lists.items c.grow_ids.new.ids.items s.progress kept h

pub returns-in_err-grow_ids-clause-room : goal.returns-in_err-grow_ids-clause-room
returns-in_err-grow_ids-clause-room c =
    let s = state_of c.args.self.now in
    let kept = c.requires.kept in
    let old_lists = kept.stored.lists_long in
    let old_reasons = kept.reasons_long in
    let old_marks = kept.marks.long in
    let old_vars = c.vars.ensures.vars in
    let h : IsRoomyFor s s.lits s.starts s.vars c.grow_lists.new.lists.items c.grow_ids.new.ids.items s.progress =
    record {
      new_lits = refl;
      new_starts = refl;
      new_vars = omega arith;
      new_lists = c.grow_lists.ensures.kept;
      new_reasons = c.grow_ids.ensures.kept;
      new_marks = longer_same no_progress s.progress s.progress refl;
      lists_long = let long = c.grow_lists.ensures.kept.long in omega (arith, long, old_lists);
      reasons_long = let long = c.grow_ids.ensures.kept.long in omega (arith, long, old_reasons);
      marks_long = old_marks;
    } in
    makes_room s s.lits s.starts s.vars c.grow_lists.new.lists.items c.grow_ids.new.ids.items s.progress h

pub returns-in_err-grow_lists-clause-kept : goal.returns-in_err-grow_lists-clause-kept
returns-in_err-grow_lists-clause-kept c =
    let s = state_of c.args.self.now in
    let kept = c.requires.kept in
    let old_lists = kept.stored.lists_long in
    let old_reasons = kept.reasons_long in
    let old_marks = kept.marks.long in
    let old_vars = c.vars.ensures.vars in
    let h : IsRoomyFor s s.lits s.starts s.vars c.grow_lists.new.lists.items s.reasons s.progress = record {
      new_lits = refl;
      new_starts = refl;
      new_vars = omega arith;
      new_lists = c.grow_lists.ensures.kept;
      new_reasons = longer_same 0 s.reasons s.reasons refl;
      new_marks = longer_same no_progress s.progress s.progress refl;
      lists_long = let long = c.grow_lists.ensures.kept.long in omega (arith, long, old_lists);
      reasons_long = old_reasons;
      marks_long = old_marks;
    } in
    kept_roomy s s.lits s.starts s.vars c.grow_lists.new.lists.items s.reasons s.progress kept h

pub returns-in_err-grow_lists-clause-room : goal.returns-in_err-grow_lists-clause-room
returns-in_err-grow_lists-clause-room c =
    let s = state_of c.args.self.now in
    let kept = c.requires.kept in
    let old_lists = kept.stored.lists_long in
    let old_reasons = kept.reasons_long in
    let old_marks = kept.marks.long in
    let old_vars = c.vars.ensures.vars in
    let h : IsRoomyFor s s.lits s.starts s.vars c.grow_lists.new.lists.items s.reasons s.progress = record {
      new_lits = refl;
      new_starts = refl;
      new_vars = omega arith;
      new_lists = c.grow_lists.ensures.kept;
      new_reasons = longer_same 0 s.reasons s.reasons refl;
      new_marks = longer_same no_progress s.progress s.progress refl;
      lists_long = let long = c.grow_lists.ensures.kept.long in omega (arith, long, old_lists);
      reasons_long = old_reasons;
      marks_long = old_marks;
    } in
    makes_room s s.lits s.starts s.vars c.grow_lists.new.lists.items s.reasons s.progress h

pub returns-then-vars : goal.returns-then-vars
returns-then-vars c =
    let s = state_of c.args.self.now in
    let kept = c.requires.kept in
    let old_lists = kept.stored.lists_long in
    let old_reasons = kept.reasons_long in
    let old_marks = kept.marks.long in
    let old_vars = c.vars.ensures.vars in
    let h : IsRoomyFor s s.lits s.starts s.vars s.lists s.reasons s.progress = record {
      new_lits = refl;
      new_starts = refl;
      new_vars = omega arith;
      new_lists = room_same s.lists;
      new_reasons = longer_same 0 s.reasons s.reasons refl;
      new_marks = longer_same no_progress s.progress s.progress refl;
      lists_long = old_lists;
      reasons_long = old_reasons;
      marks_long = old_marks;
    } in
    record {
      kept = kept_roomy s s.lits s.starts s.vars s.lists s.reasons s.progress kept h;
      room =
          makes_room s s.lits s.starts s.vars s.lists s.reasons s.progress h;
      ok = omega (arith, c.if-vars.true, old_vars);
    }
