use Rattle.std.proofs.Common.{◌∷◌, ◌++◌, [], ap, ◌∙◌}
use Rattle.unit_propagate.specs.States.{no_progress}
use Rattle.unit_propagate.proofs.Showing.{kept_open}
use Rattle.unit_propagate.proofs.watch_state.WatchState.open.Goals as goal

pub returns-clause-kept : goal.returns-clause-kept
returns-clause-kept c =
    kept_open _ _ _ _ _ _ _ _ _ c.new.ensures.clauses c.new.ensures.pairs c.new-2.ensures.items c.new-3.ensures.items
    c.new-4.ensures.lits c.new-4.ensures.starts
    c.new-4.ensures.vars c.new-5.ensures.items (c.in_ok-push.ensures.items
    ∙ ap (λ xs. xs ++ no_progress ∷ []) c.new-progress.ensures.items)

pub returns-clause-is : goal.returns-clause-is
returns-clause-is c = record {
  clauses = c.new.ensures.clauses;
  lits = c.new-4.ensures.lits;
  starts =
      c.new-4.ensures.starts;
}
