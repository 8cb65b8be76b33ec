use Rattle.argue_words.proofs.SolveLaws.{all_added}
use Rattle.argue_words.proofs.options.command_of.Goals as goal

pub returns : goal.returns
returns c = all_added _ _ _ _ _ c.loop-row-test.false c.loop-row.invariant c.rows_of-rows.ensures
