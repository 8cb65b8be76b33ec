use Rattle.std.proofs.Common.{ap, ◌∙◌}
use Rattle.unit_propagate.specs.States.{progress_at}
use Rattle.unit_propagate.proofs.Rooms.{lowers_one}
use Rattle.unit_propagate.proofs.adding.lower_progress_at.Goals as goal

pub returns : goal.returns
returns c =
    lowers_one c.args.progress.now.items c.args.at c.args.index c.smaller.result c.progress_in-mark.result c.requires
    (c.progress_in-mark.ensures ∙ ap (λ ms. progress_at ms c.args.at) c.as_slice.ensures.value) c.smaller.ensures.first
    c.smaller.ensures.second
