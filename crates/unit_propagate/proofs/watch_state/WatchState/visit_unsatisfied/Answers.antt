use Rattle.std.proofs.Common.{refl, sym, ◌∙◌}
use Rattle.unit_propagate.specs.States.{state_of}
use Rattle.unit_propagate.proofs.Moving.{IsMove, room_there, here_other, move_codes}
use Rattle.unit_propagate.proofs.Visiting.{move_of, others_of, lit_listed, moved_kept, moved_visit, implied_kept}
use Rattle.unit_propagate.proofs.Visiting.{implied_visit}
use Rattle.unit_propagate.proofs.Visiting.{grows_same, grown_literal, grown_moved, fails, false_value}
use Rattle.unit_propagate.proofs.watch_state.WatchState.visit_unsatisfied.Goals as goal

pub move_watch-requires-clause-to : goal.move_watch-requires-clause-to
move_watch-requires-clause-to c =
    let s = state_of c.args.self.now in
    let m : IsMove s c.args.at c.args.watcher.id c.args.falsified c.args.watcher.other c.in-Some.found.lit =
    move_of s c.args.at c.args.watcher.id c.code.result c.args.falsified c.args.watcher.other c.in-Some.found
    c.requires.here_is c.code.ensures.code c.in-Some.ensures c.requires.falsified_now c.len-form.ensures.form.apart in
    lit_listed s c.args.watcher.id c.in-Some.found.lit c.requires.kept m.here.named m.there

pub move_watch-requires-clause-room : goal.move_watch-requires-clause-room
move_watch-requires-clause-room c =
    let s = state_of c.args.self.now in
    let m : IsMove s c.args.at c.args.watcher.id c.args.falsified c.args.watcher.other c.in-Some.found.lit =
    move_of s c.args.at c.args.watcher.id c.code.result c.args.falsified c.args.watcher.other c.in-Some.found
    c.requires.here_is c.code.ensures.code c.in-Some.ensures c.requires.falsified_now c.len-form.ensures.form.apart in
    room_there s c.args.at c.args.watcher.id c.args.falsified c.args.watcher.other c.in-Some.found.lit c.requires.kept m

pub move_watch-requires-clause-apart : goal.move_watch-requires-clause-apart
move_watch-requires-clause-apart c =
    let s = state_of c.args.self.now in
    let m : IsMove s c.args.at c.args.watcher.id c.args.falsified c.args.watcher.other c.in-Some.found.lit =
    move_of s c.args.at c.args.watcher.id c.code.result c.args.falsified c.args.watcher.other c.in-Some.found
    c.requires.here_is c.code.ensures.code c.in-Some.ensures c.requires.falsified_now c.len-form.ensures.form.apart in
    λ e. move_codes s c.args.at c.args.watcher.id c.args.falsified c.args.watcher.other c.in-Some.found.lit m
    (sym c.requires.code_is ∙ e)

pub imply-requires-clause-within : goal.imply-requires-clause-within
imply-requires-clause-within c =
    let s = state_of c.args.self.now in
    rw c.lit.ensures.lit (c.requires.kept.stored.room c.args.watcher.id c.args.watcher.other c.requires.here_is.named
    (here_other s c.args.at c.args.watcher.id c.args.falsified c.args.watcher.other c.requires.kept c.requires.here_is))

pub returns-in-Some-clause-kept : goal.returns-in-Some-clause-kept
returns-in-Some-clause-kept c =
    let s = state_of c.args.self.now in
    let m : IsMove s c.args.at c.args.watcher.id c.args.falsified c.args.watcher.other c.in-Some.found.lit =
    move_of s c.args.at c.args.watcher.id c.code.result c.args.falsified c.args.watcher.other c.in-Some.found
    c.requires.here_is c.code.ensures.code c.in-Some.ensures c.requires.falsified_now c.len-form.ensures.form.apart in
    moved_kept s (state_of c.move_watch.new.self) c.args.at c.args.watcher.id c.args.code c.args.falsified
    c.args.watcher.other
    c.in-Some.found.lit c.requires.kept m c.requires.code_is c.requires.inside c.move_watch.ensures

pub returns-in-Some-clause-visit : goal.returns-in-Some-clause-visit
returns-in-Some-clause-visit c =
    let s = state_of c.args.self.now in
    let m : IsMove s c.args.at c.args.watcher.id c.args.falsified c.args.watcher.other c.in-Some.found.lit =
    move_of s c.args.at c.args.watcher.id c.code.result c.args.falsified c.args.watcher.other c.in-Some.found
    c.requires.here_is c.code.ensures.code c.in-Some.ensures c.requires.falsified_now c.len-form.ensures.form.apart in
    moved_visit s (state_of c.move_watch.new.self) c.args.at c.args.watcher.id c.args.code c.args.falsified
    c.args.watcher.other c.in-Some.found.lit
    c.requires.kept m c.requires.open c.requires.done c.requires.code_is c.requires.inside c.move_watch.ensures

pub returns-in-Unset-clause-kept : goal.returns-in-Unset-clause-kept
returns-in-Unset-clause-kept c =
    let s = state_of c.args.self.now in
    let others = others_of s c.args.watcher.id c.code.result c.args.watcher.other c.code.ensures.code c.in-None.ensures
    in
    implied_kept s (state_of c.imply.new.self) c.args.at c.args.watcher.id c.args.falsified c.args.watcher.other
    c.lit.result
    c.requires.kept c.requires.here_is others c.lit.ensures.lit c.len-form.ensures.form.levels c.imply.ensures.before
    c.imply.ensures.state

pub returns-in-Unset-clause-visit : goal.returns-in-Unset-clause-visit
returns-in-Unset-clause-visit c =
    let s = state_of c.args.self.now in
    implied_visit s (state_of c.imply.new.self) c.args.at c.args.watcher.id c.args.falsified c.args.watcher.other
    c.lit.result
    c.requires.here_is c.requires.done c.lit.ensures.lit c.imply.ensures.state

pub returns-in-Unset-clause-grown : goal.returns-in-Unset-clause-grown
returns-in-Unset-clause-grown c =
    grown_literal (state_of c.args.self.now) (state_of c.imply.new.self) c.lit.result c.args.watcher.id c.requires.kept
    c.requires.here_is.named
    c.imply.ensures.before c.imply.ensures.state

pub returns-in_default : goal.returns-in_default
returns-in_default c =
    let s = state_of c.args.self.now in
    let others = others_of s c.args.watcher.id c.code.result c.args.watcher.other c.code.ensures.code c.in-None.ensures
    in
    record {
      kept = c.requires.kept;
      grown = grows_same s;
      visit = fails s c.args.at c.args.watcher.id c.args.falsified c.args.watcher.other c.requires.here_is others
          (false_value s.lits c.args.watcher.other c.args.other c.requires.value c.in_default.not-Unset
          c.requires.open);
      head = refl;
      done_same = refl;
    }

pub returns-in-Some-clause-grown : goal.returns-in-Some-clause-grown
returns-in-Some-clause-grown c = grown_moved _ _ _ _ _ _ _ c.move_watch.ensures
