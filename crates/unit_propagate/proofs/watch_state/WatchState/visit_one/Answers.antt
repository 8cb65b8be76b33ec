use Rattle.std.proofs.Common.{refl}
use Rattle.unit_propagate.specs.States.{state_of}
use Rattle.unit_propagate.proofs.Visiting.{grows_same, done_next, true_value}
use Rattle.unit_propagate.proofs.watch_state.WatchState.visit_one.Goals as goal

pub visit_unsatisfied-requires-clause-value : goal.visit_unsatisfied-requires-clause-value
visit_unsatisfied-requires-clause-value c = rw c.lit.ensures.lit at c.value-value.ensures.value

pub visit_unsatisfied-requires-clause-open : goal.visit_unsatisfied-requires-clause-open
visit_unsatisfied-requires-clause-open c =
    true_value c.args.self.now.trail.lits c.watcher-watcher.result.other c.value-value.result
    (rw c.lit.ensures.lit at c.value-value.ensures.value) c.in_default.not-True

pub returns-in-True : goal.returns-in-True
returns-in-True c =
    let s = state_of c.args.self.now in
    record {
      kept = c.requires.kept;
      grown = grows_same s;
      visit = (
        done_next s c.args.at c.watcher-watcher.result.id c.args.falsified c.watcher-watcher.result.other
            c.watcher-watcher.ensures
            (rw c.lit.ensures.lit at c.in-True.ensures.value).0 c.requires.done,
        refl,
      );
      head = refl;
      done_same = refl;
    }
