use Rattle.session_log.proofs.Showing.{shown_answer_right}
use Rattle.session_log.proofs.laws.shown_answers_are_right.Goals as goal

pub returns : goal.returns
returns c = shown_answer_right
