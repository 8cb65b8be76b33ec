use Rattle.std.proofs.Common.{◌≡◌, take}
use Rattle.lrat_text.specs.Spelling.{spelled_clause}
use Rattle.lrat_text.proofs.spelled.spell.Given as goal

abbrev pub invariant-loop-lit : goal.invariant-loop-lit
invariant-loop-lit l = l.into.items ≡ spelled_clause (take l.lit-index l.clause)
