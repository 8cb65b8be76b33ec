use Rattle.std.proofs.Common.{get_or, ap}
use Rattle.unit_propagate.proofs.watch_state.WatchState.reason.Goals as goal

pub returns : goal.returns
returns c = ap (λ xs. get_or xs c.args.index 0) c.as_slice-reasons.ensures.value
