use Rattle.session_log.proofs.Showing.{shown_sets_right}
use Rattle.session_log.proofs.laws.shown_sets_are_extensions.Goals as goal

pub returns : goal.returns
returns c = shown_sets_right
