use Rattle.std.proofs.Common.{◌≡◌, ◌-◌, ◌<◌, length}
use Rattle.std.specs.Prelude.{Contains}
use Rattle.plain_lits.specs.Literals.{negation}
use Rattle.plain_lits.specs.Packed.{packed}
use Rattle.unit_propagate.specs.States.{state_of, IsKept}
use Rattle.unit_propagate.specs.Steps.{Grows, AreDone}
use Rattle.clause_watches.specs.WatchLists.{ids_at}
use Rattle.unit_propagate.proofs.watch_state.WatchState.visit.Given as goal

abbrev pub invariant-ids : goal.invariant-ids
invariant-ids l = record {
  kept : IsKept (state_of l.self);
  grown : Grows (state_of l.initial.self) (state_of l.self);
  inside : l.code < length l.self.lists.items;
  falsified_now : Contains l.self.trail.lits (negation l.falsified);
  done : AreDone (state_of l.self) l.falsified l.at;
  head : l.self.head ≡ l.initial.self.head;
  done_same : l.self.done ≡ l.initial.self.done;
}

abbrev pub decreases-ids : goal.decreases-ids
decreases-ids l = length (ids_at l.self.lists.items (packed l.falsified)) - l.at
