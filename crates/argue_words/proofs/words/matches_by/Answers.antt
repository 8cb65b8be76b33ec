use Rattle.argue_words.proofs.SolveLaws.{given_at, refused_of, taken_at, values_at}
use Rattle.argue_words.proofs.words.matches_by.Goals as goal

pub returns-clause-taken : goal.returns-clause-taken
returns-clause-taken c = taken_at _ _ c.in_ok-command.ensures _ _ c.try_get_matches_from.ensures.kinds

pub returns-clause-values : goal.returns-clause-values
returns-clause-values c = values_at _ _ c.in_ok-command.ensures _ _ c.try_get_matches_from.ensures.matches

pub returns-clause-given : goal.returns-clause-given
returns-clause-given c = given_at _ _ _ c.in_ok-command.ensures c.try_get_matches_from.ensures.parsed

pub returns-clause-refused : goal.returns-clause-refused
returns-clause-refused c = refused_of _ _ _ _ _ c.in_ok-command.ensures c.try_get_matches_from.ensures.passes
