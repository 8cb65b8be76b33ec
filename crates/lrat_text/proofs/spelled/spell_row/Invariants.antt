use Rattle.std.proofs.Common.{◌≡◌, take}
use Rattle.lrat_text.specs.Spelling.{spelled_clause}
use Rattle.lrat_text.proofs.spelled.spell_row.Given as goal

abbrev pub invariant-loop-packed : goal.invariant-loop-packed
invariant-loop-packed l = l.into.items ≡ spelled_clause (take l.packed-index l.clause)
