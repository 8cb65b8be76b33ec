use Rattle.unit_propagate.specs.States.{state_of}
use Rattle.unit_propagate.proofs.Showing.{is_search}
use Rattle.unit_propagate.proofs.watch_state.WatchState.form.Goals as goal

pub returns : goal.returns
returns c = is_search (state_of c.args.self.now) c.requires c.len-count.ensures.form
